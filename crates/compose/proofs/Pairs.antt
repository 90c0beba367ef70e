-- Where pairs are cut, as two gap forms begin.
use Rattle.std.proofs.Common.{◌≡◌, ℕ, zero, suc, Bool, true, false, List, [], ◌∷◌, ◌++◌, length, refl, ap, ◌∙◌}
use Rattle.std.proofs.Math.Bool.{or_assoc}
use Rattle.std.specs.Prelude.{not, ◌&&◌, ◌||◌}
use Rattle.attributes.specs.Attributes.{Changes}
use Rattle.delta.specs.Element.{Element}
use Rattle.delta.specs.Gaps.{Gaps, End, Gap, Fate, Del, Keep, front, run}
use Rattle.compose.specs.Places.{inserts, tail}
use Rattle.compose.specs.Composed.{beyond}
use Rattle.compose.specs.steps.PairTest.{is_pair, parts, cuts_units, cuts}
use Rattle.compose.proofs.Alongside.{beyond-nothing, beyond-front}
use Rattle.compose.proofs.DocumentCuts.{fate-itself}

and-false : (t : Bool) → (t && false) ≡ false
and-false true = refl
and-false false = refl

-- nothing cuts nothing
pub cuts_units-nothing : (xs : List Element) → cuts_units xs (End []) ≡ false
cuts_units-nothing [] = refl
cuts_units-nothing (x ∷ []) = refl
cuts_units-nothing (x ∷ y ∷ xs) = ap (λ t. t || cuts_units (y ∷ xs) (End [])) (and-false (is_pair x y)) ∙ cuts_units-nothing (y ∷ xs)

pub cuts-nothing : (g : Gaps) → cuts g (End []) ≡ false
cuts-nothing (End xs) = cuts_units-nothing xs
cuts-nothing (Gap xs Del g) = ap (λ t. t || cuts g (beyond xs (End []))) (cuts_units-nothing xs) ∙ (ap (cuts g) (beyond-nothing xs) ∙ cuts-nothing g)
cuts-nothing (Gap xs (Keep c) g) =
    ap (λ t. t || cuts g (tail (beyond xs (End [])))) (cuts_units-nothing xs) ∙ (ap (λ b. cuts g (tail b)) (beyond-nothing xs) ∙ cuts-nothing g)

-- what the second inserts first cuts nothing
pub cuts_units-front : (xs ys : List Element) (h : Gaps) → cuts_units xs (front ys h) ≡ cuts_units xs h
cuts_units-front [] ys h = refl
cuts_units-front (x ∷ []) ys (End zs) = refl
cuts_units-front (x ∷ []) ys (Gap zs f h) = refl
cuts_units-front (x ∷ y ∷ xs) ys (End zs) = refl
cuts_units-front (x ∷ y ∷ xs) ys (Gap zs f h) = refl

tail-front : (ys : List Element) (h : Gaps) → tail (front ys h) ≡ tail h
tail-front ys (End zs) = refl
tail-front ys (Gap zs f h) = refl

pub cuts-insert : (g : Gaps) (ys : List Element) (h : Gaps) → cuts g (front ys h) ≡ cuts g h
cuts-insert (End xs) ys h = cuts_units-front xs ys h
cuts-insert (Gap [] Del g) ys h = cuts-insert g ys h
cuts-insert (Gap (x ∷ xs) Del g) ys h =
    ap (λ t. t || cuts g (beyond (x ∷ xs) (front ys h))) (cuts_units-front (x ∷ xs) ys h) ∙ ap (λ r. cuts_units (x ∷ xs) h || cuts g r) (beyond-front x xs ys h)
cuts-insert (Gap [] (Keep c) g) ys h = ap (cuts g) (tail-front ys h)
cuts-insert (Gap (x ∷ xs) (Keep c) g) ys h =
    ap (λ t. t || cuts g (tail (beyond (x ∷ xs) (front ys h)))) (cuts_units-front (x ∷ xs) ys h) ∙ ap (λ r. cuts_units (x ∷ xs) h || cuts g (tail r)) (beyond-front x xs ys h)

-- runs of units
pub cuts-deleted : (n : ℕ) (g b : Gaps) → cuts (run n Del g) b ≡ cuts g b
cuts-deleted zero g b = refl
cuts-deleted (suc n) g b = cuts-deleted n g b

pub cuts-kept : (n : ℕ) (c : Changes) (f : Fate) (g h : Gaps) → cuts (run n (Keep c) g) (run n f h) ≡ cuts g h
cuts-kept zero c f g h = refl
cuts-kept (suc n) c f g h = cuts-kept n c f g h

-- the last of some units, all of one fate, and the first of those after them
abbrev pub border : List Element → List Element → Fate → Gaps → Bool
border [] ys f h = false
border (x ∷ []) [] f h = false
border (x ∷ []) (y ∷ ys) f h = is_pair x y && parts f h
border (x ∷ z ∷ xs) ys f h = border (z ∷ xs) ys f h

cuts_units-border : (xs ys : List Element) (f : Fate) (h : Gaps) → cuts_units (xs ++ ys) (run (length xs) f h) ≡ (border xs ys f h || cuts_units ys h)
cuts_units-border [] ys f h = refl
cuts_units-border (x ∷ []) [] f h = refl
cuts_units-border (x ∷ []) (y ∷ ys) f h = refl
cuts_units-border (x ∷ z ∷ xs) ys f h =
    ap (λ t. (is_pair x z && not (t && true)) || cuts_units (z ∷ xs ++ ys) (run (length (z ∷ xs)) f h)) (fate-itself f)
    ∙ (ap (λ t. t || cuts_units (z ∷ xs ++ ys) (run (length (z ∷ xs)) f h)) (and-false (is_pair x z)) ∙ cuts_units-border (z ∷ xs) ys f h)

beyond-border : (xs ys : List Element) (f : Fate) (h : Gaps) → beyond (xs ++ ys) (run (length xs) f h) ≡ beyond ys h
beyond-border [] ys f h = refl
beyond-border (x ∷ xs) ys f h = beyond-border xs ys f h

pub cuts-border : (xs : List Element) (g : Gaps) (f : Fate) (h : Gaps) → cuts (front xs g) (run (length xs) f h) ≡ (border xs (inserts g) f h || cuts g h)
cuts-border xs (End ys) f h = cuts_units-border xs ys f h
cuts-border xs (Gap ys Del g) f h =
    ap (λ t. t || cuts g (beyond (xs ++ ys) (run (length xs) f h))) (cuts_units-border xs ys f h)
    ∙ (ap (λ r. (border xs ys f h || cuts_units ys h) || cuts g r) (beyond-border xs ys f h)
    ∙ or_assoc (border xs ys f h) (cuts_units ys h) (cuts g (beyond ys h)))
cuts-border xs (Gap ys (Keep c) g) f h =
    ap (λ t. t || cuts g (tail (beyond (xs ++ ys) (run (length xs) f h)))) (cuts_units-border xs ys f h)
    ∙ (ap (λ r. (border xs ys f h || cuts_units ys h) || cuts g (tail r)) (beyond-border xs ys f h)
    ∙ or_assoc (border xs ys f h) (cuts_units ys h) (cuts g (tail (beyond ys h))))
