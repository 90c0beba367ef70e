-- Trimming and settling in either order, and how much is left of what stands before.
use Rattle.std.proofs.Common.{◌≡◌, ℕ, zero, suc, ◌<◌, ◌≤◌, true, false, cond, List, [], ◌∷◌, ◌++◌, refl, sym, ap, subst, ◌∙◌, arith}
use Rattle.std.proofs.lemmas.List.{append-nil}
use Rattle.attributes.specs.Map.{empty}
use Rattle.attributes.specs.Attributes.{Changes, same_changes}
use Rattle.delta.specs.Element.{Element}
use Rattle.delta.specs.Operation.{Operation, insert_text, insert_embed, retain, delete, is_plain, op_len, base_of, out_of, IsBounded}
use Rattle.delta.specs.Gaps.{Gaps, End, Gap, Fate, Del, Keep, front, run, counted, joined, units_below}
use Rattle.delta.specs.Normal.{past, settled, trim, trimmed, nf}
use Rattle.delta.proofs.Joins.{counted-append, units_below-counted}
use Rattle.delta.proofs.Settling.{ends_kept, ends_kept-rest}
use Rattle.delta.proofs.Lengths.{units_made, units_made-counted, base_of-spelled, out_of-spelled, units_below-settled, units_made-settled, units_made-front}
use Rattle.delta.proofs.Ends.{trimmed-past, trimmed-front}

-- what settles is kept where something comes after
trim-past : (c : Changes) (zs : List Element) (f : Fate) (g : Gaps) → trim [] (Keep c) (front zs (past f g)) ≡ Gap [] (Keep c) (front zs (past f g))
trim-past c zs (Keep e) g = refl
trim-past c zs Del (End ys) = refl
trim-past c zs Del (Gap ys f g) = refl

trim-settled : (xs : List Element) (c : Changes) (g : Gaps) → front xs (trim [] (Keep c) (settled g)) ≡ settled (trim xs (Keep c) g)
trim-settled xs c (End []) =
    elim (same_changes c empty) as (λ t. front xs (cond t (End []) (Gap [] (Keep c) (End []))) ≡ settled (cond t (End xs) (Gap xs (Keep c) (End [])))) [ true ↦ ap End (append-nil xs) | false ↦ refl ]
trim-settled xs c (End (z ∷ zs)) = refl
trim-settled xs c (Gap zs f g) = ap (front xs) (trim-past c zs f (settled g))

pub trimmed-settled : (g : Gaps) → trimmed (settled g) ≡ settled (trimmed g)
trimmed-settled (End xs) = refl
trimmed-settled (Gap xs Del g) =
    trimmed-front xs (past Del (settled g))
    ∙ ap (front xs) (trimmed-past (settled g) ∙ ap (past Del) (trimmed-settled g))
trimmed-settled (Gap xs (Keep c) g) =
    trimmed-front xs (Gap [] (Keep c) (settled g))
    ∙ (ap (λ k. front xs (trim [] (Keep c) k)) (trimmed-settled g) ∙ trim-settled xs c (trimmed g))

-- units kept without a change, and nothing after them, are nothing
trimmed-kept : (n : ℕ) → trimmed (run n (Keep empty) (End [])) ≡ End []
trimmed-kept zero = refl
trimmed-kept (suc n) = ap (trim [] (Keep empty)) (trimmed-kept n)

trimmed-joined : (g : Gaps) (n : ℕ) → trimmed (joined g (run n (Keep empty) (End []))) ≡ trimmed g
trimmed-joined (End xs) n = trimmed-front xs (run n (Keep empty) (End [])) ∙ (ap (front xs) (trimmed-kept n) ∙ ap End (append-nil xs))
trimmed-joined (Gap xs f g) n = ap (trim xs f) (trimmed-joined g n)

pub shortest-joined : (g : Gaps) (n : ℕ) → trimmed (settled (joined g (run n (Keep empty) (End [])))) ≡ trimmed (settled g)
shortest-joined g n =
    trimmed-settled (joined g (run n (Keep empty) (End []))) ∙ (ap settled (trimmed-joined g n) ∙ sym (trimmed-settled g))

-- there is something
abbrev IsMore : Gaps → Type 0
IsMore (End []) = ⊥
IsMore (End (x ∷ xs)) = Unit {0}
IsMore (Gap xs f g) = Unit {0}

more-front : (xs : List Element) (g : Gaps) → IsMore g → IsMore (front xs g)
more-front [] (End ys) h = h
more-front (x ∷ xs) (End ys) h = tt
more-front xs (Gap ys f g) h = tt

more-joined : (g h : Gaps) → IsMore h → IsMore (joined g h)
more-joined (End xs) h more = more-front xs h more
more-joined (Gap xs f g) h more = tt

ends_kept-more : (xs : List Element) (f : Fate) (g : Gaps) → IsMore g → ends_kept (Gap xs f g) ≡ ends_kept g
ends_kept-more xs (Keep c) (End []) more = absurd more
ends_kept-more xs (Keep c) (End (y ∷ ys)) more = refl
ends_kept-more xs (Keep c) (Gap ys f g) more = refl
ends_kept-more xs Del g more = refl

ends_kept-front : (xs : List Element) (g : Gaps) → ends_kept (front xs g) ≡ ends_kept g
ends_kept-front xs (End ys) = refl
ends_kept-front xs (Gap ys (Keep c) (End [])) = refl
ends_kept-front xs (Gap ys (Keep c) (End (z ∷ zs))) = refl
ends_kept-front xs (Gap ys (Keep c) (Gap zs f g)) = refl
ends_kept-front xs (Gap ys Del g) = refl

-- how it ends is how its last part ends
ends_kept-joined : (g h : Gaps) → IsMore h → ends_kept (joined g h) ≡ ends_kept h
ends_kept-joined (End xs) h more = ends_kept-front xs h
ends_kept-joined (Gap xs f g) h more = ends_kept-more xs f (joined g h) (more-joined g h more) ∙ ends_kept-joined g h more

ends_kept-run : (n : ℕ) (f : Fate) → ends_kept (Gap [] f (End [])) ≡ false → ends_kept (run n f (End [])) ≡ false
ends_kept-run zero f h = refl
ends_kept-run (suc zero) f h = h
ends_kept-run (suc (suc n)) f h = ends_kept-more [] f (run (suc n) f (End [])) tt ∙ ends_kept-run (suc n) f h

-- one operation that isn't nothing and isn't a plain retain
more-op : (op : Operation) → 0 < op_len op → IsMore (counted (op ∷ []))
more-op (insert_text [] a) some = absurd (omega arith)
more-op (insert_text (u ∷ us) a) some = tt
more-op (insert_embed key value a) some = tt
more-op (retain zero c) some = absurd (omega arith)
more-op (retain (suc n) c) some = tt
more-op (delete zero) some = absurd (omega arith)
more-op (delete (suc n)) some = tt

ends_kept-op : (op : Operation) → is_plain op ≡ false → ends_kept (counted (op ∷ [])) ≡ false
ends_kept-op (insert_text us a) other = refl
ends_kept-op (insert_embed key value a) other = refl
ends_kept-op (retain n c) other = ends_kept-run n (Keep c) other
ends_kept-op (delete n) other = ends_kept-run n Del refl

-- what trimming leaves of two, where the first doesn't end with a unit kept without a change: at least the first
record Leaves (g k : Gaps) : Type 0 where
  below : units_below g ≤ units_below k
  made : units_made g ≤ units_made k

leaves-trim : (xs : List Element) (f : Fate) (g k : Gaps) → ends_kept (Gap xs f g) ≡ false → (IsMore g → IsMore k) → Leaves g k → Leaves (Gap xs f g) (trim xs f k)
leaves-trim xs Del g k ends more rest = record { below = omega (arith, rest.below); made = omega (arith, rest.made) }
leaves-trim xs (Keep c) (End []) (End []) ends more rest = rw ends (record { below = omega arith; made = omega arith })
leaves-trim xs (Keep c) (End (y ∷ ys)) (End []) ends more rest = absurd (more tt)
leaves-trim xs (Keep c) (Gap ys e g) (End []) ends more rest = absurd (more tt)
leaves-trim xs (Keep c) g (End (z ∷ zs)) ends more rest = record { below = omega (arith, rest.below); made = omega (arith, rest.made) }
leaves-trim xs (Keep c) g (Gap zs e k) ends more rest = record { below = omega (arith, rest.below); made = omega (arith, rest.made) }

more-trim : (xs : List Element) (f : Fate) (g k : Gaps) → ends_kept (Gap xs f g) ≡ false → (IsMore g → IsMore k) → IsMore (trim xs f k)
more-trim xs Del g k ends more = tt
more-trim xs (Keep c) (End []) (End []) ends more = rw ends tt
more-trim xs (Keep c) (End (y ∷ ys)) (End []) ends more = absurd (more tt)
more-trim xs (Keep c) (Gap ys e g) (End []) ends more = absurd (more tt)
more-trim xs (Keep c) g (End (z ∷ zs)) ends more = tt
more-trim xs (Keep c) g (Gap zs e k) ends more = tt

more-trimmed_front : (y : Element) (ys : List Element) (h : Gaps) → IsMore (trimmed (front (y ∷ ys) h))
more-trimmed_front y ys h = subst IsMore (sym (trimmed-front (y ∷ ys) h)) (opened (trimmed h))
  where
    opened : (k : Gaps) → IsMore (front (y ∷ ys) k)
    opened (End zs) = tt
    opened (Gap zs f k) = tt

more-trimmed : (g h : Gaps) → ends_kept g ≡ false → IsMore g → IsMore (trimmed (joined g h))
more-trimmed (End []) h ends more = absurd more
more-trimmed (End (y ∷ ys)) h ends more = more-trimmed_front y ys h
more-trimmed (Gap xs f g) h ends more =
    more-trim xs f g (trimmed (joined g h)) ends (more-trimmed g h (ends_kept-rest xs f g ends))

leaves-joined : (g h : Gaps) → ends_kept g ≡ false → Leaves g (trimmed (joined g h))
leaves-joined (End xs) h ends = record {
  below = omega arith;
  made = omega (arith, ap units_made (trimmed-front xs h), units_made-front xs (trimmed h));
}
leaves-joined (Gap xs f g) h ends =
    let rest_ends = ends_kept-rest xs f g ends in
    leaves-trim xs f g (trimmed (joined g h)) ends (more-trimmed g h rest_ends) (leaves-joined g h rest_ends)

-- whatever follows an operation that isn't nothing and isn't a plain retain, the normal form is no shorter than what stood before
pub bounded-before : (ops : List Operation) (op : Operation) (h : Gaps) → is_plain op ≡ false → 0 < op_len op
    → IsBounded (nf (joined (counted (ops ++ op ∷ [])) h)) → IsBounded (ops ++ op ∷ [])
bounded-before ops op h other some bounded =
    let all : List Operation = ops ++ op ∷ [] in
    let g : Gaps = joined (counted all) h in
    let ends : ends_kept (counted (ops ++ op ∷ [])) ≡ false =
    ap ends_kept (counted-append ops (op ∷ [])) ∙ (ends_kept-joined (counted ops) (counted (op ∷ [])) (more-op op some) ∙ ends_kept-op op other) in
    let leaves = leaves-joined (counted all) h ends in
    let short : trimmed (settled g) ≡ settled (trimmed g) = trimmed-settled g in
    let base : base_of (nf g) ≡ units_below (trimmed g) = base_of-spelled (trimmed (settled g)) ∙ (ap units_below short ∙ units_below-settled (trimmed g)) in
    let out : out_of (nf g) ≡ units_made (trimmed g) = out_of-spelled (trimmed (settled g)) ∙ (ap units_made short ∙ units_made-settled (trimmed g)) in
    record {
      base = omega (arith, bounded.base, base, leaves.below, units_below-counted all);
      out = omega (arith, bounded.out, out, leaves.made, units_made-counted all);
    }
