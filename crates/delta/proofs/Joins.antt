-- Counting out: what stands before gap forms, one after another, and of an append.
use Rattle.std.proofs.Common.{◌≡◌, ℕ, zero, suc, ◌+◌, List, [], ◌∷◌, ◌++◌, refl, sym, ap, ◌∙◌, arith}
use Rattle.std.proofs.lemmas.List.{append-nil, append_assoc}
use Rattle.delta.specs.Element.{Element, letters, embedded}
use Rattle.delta.specs.Operation.{Operation, insert_text, insert_embed, retain, delete, base_of}
use Rattle.delta.specs.Gaps.{Gaps, End, Gap, Fate, Del, Keep, front, run, counted, joined, units_below}

-- nothing, and one after another, before a gap form
pub front-nil : (g : Gaps) → front [] g ≡ g
front-nil (End xs) = refl
front-nil (Gap xs f g) = refl

pub front-front : (xs ys : List Element) (g : Gaps) → front xs (front ys g) ≡ front (xs ++ ys) g
front-front xs ys (End zs) = ap End (sym (append_assoc xs ys zs))
front-front xs ys (Gap zs f g) = ap (λ l. Gap l f g) (sym (append_assoc xs ys zs))

pub units_below-front : (xs : List Element) (g : Gaps) → units_below (front xs g) ≡ units_below g
units_below-front xs (End ys) = refl
units_below-front xs (Gap ys f g) = refl

pub units_below-run : (n : ℕ) (f : Fate) (g : Gaps) → units_below (run n f g) ≡ n + units_below g
units_below-run zero f g = omega arith
units_below-run (suc n) f g = omega (arith, units_below-run n f g)

-- joining
pub joined-front : (xs : List Element) (g h : Gaps) → joined (front xs g) h ≡ front xs (joined g h)
joined-front xs (End ys) h = sym (front-front xs ys h)
joined-front xs (Gap ys f g) h = refl

pub joined-run : (n : ℕ) (f : Fate) (g h : Gaps) → joined (run n f g) h ≡ run n f (joined g h)
joined-run zero f g h = refl
joined-run (suc n) f g h = ap (Gap [] f) (joined-run n f g h)

pub joined-End : (g : Gaps) → joined g (End []) ≡ g
joined-End (End xs) = ap End (append-nil xs)
joined-End (Gap xs f g) = ap (Gap xs f) (joined-End g)

pub joined-joined : (g h k : Gaps) → joined (joined g h) k ≡ joined g (joined h k)
joined-joined (End xs) h k = joined-front xs h k
joined-joined (Gap xs f g) h k = ap (Gap xs f) (joined-joined g h k)

pub counted-append : (a b : List Operation) → counted (a ++ b) ≡ joined (counted a) (counted b)
counted-append [] b = sym (front-nil (counted b))
counted-append (insert_text us t ∷ a) b = ap (front (letters us t)) (counted-append a b) ∙ sym (joined-front (letters us t) (counted a) (counted b))
counted-append (insert_embed key value t ∷ a) b =
    ap (front (embedded key value t ∷ [])) (counted-append a b) ∙ sym (joined-front (embedded key value t ∷ []) (counted a) (counted b))
counted-append (retain n c ∷ a) b = ap (run n (Keep c)) (counted-append a b) ∙ sym (joined-run n (Keep c) (counted a) (counted b))
counted-append (delete n ∷ a) b = ap (run n Del) (counted-append a b) ∙ sym (joined-run n Del (counted a) (counted b))

pub units_below-counted : (ops : List Operation) → units_below (counted ops) ≡ base_of ops
units_below-counted [] = refl
units_below-counted (insert_text us t ∷ ops) = units_below-front (letters us t) (counted ops) ∙ omega (arith, units_below-counted ops)
units_below-counted (insert_embed key value t ∷ ops) = units_below-front (embedded key value t ∷ []) (counted ops) ∙ omega (arith, units_below-counted ops)
units_below-counted (retain n c ∷ ops) = units_below-run n (Keep c) (counted ops) ∙ omega (arith, units_below-counted ops)
units_below-counted (delete n ∷ ops) = units_below-run n Del (counted ops) ∙ omega (arith, units_below-counted ops)
