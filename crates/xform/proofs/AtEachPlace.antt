-- Both deltas at once, place by place.
use Rattle.std.proofs.Common.{◌≡◌, ℕ, zero, suc, Bool, true, false, List, [], Option, Some, None, max, refl, sym, ap, ◌∙◌, arith}
use Rattle.std.proofs.lemmas.List.{append-nil}
use Rattle.attributes.specs.Attributes.{Changes}
use Rattle.attributes.specs.Laws.{first_of}
use Rattle.attributes.specs.Map.{empty, get, insert_all, overwritten}
use Rattle.attributes.specs.Scalar.{Scalar}
use Rattle.attributes.proofs.CallerLemmas.{same_changes_map, get-composed}
use Rattle.delta.specs.Element.{Element}
use Rattle.delta.specs.Gaps.{Gaps, End, Gap, Fate, Del, Keep, units_below}
use Rattle.delta.specs.Places.{inserted_at, fate_at}
use Rattle.xform.specs.Both.{in_turn, changes_of_both, fate_of_both, both_at_once}
use Rattle.xform.specs.Laws.{BothAtEachPlace}

-- where one inserts nothing
turn-first : (xs : List Element) (priority : Bool) → xs ≡ in_turn xs [] priority
turn-first xs true = sym (append-nil xs)
turn-first xs false = refl

turn-second : (ys : List Element) (priority : Bool) → ys ≡ in_turn [] ys priority
turn-second ys true = refl
turn-second ys false = sym (append-nil ys)

-- where one changes nothing
overwritten-nothing : (c : Changes) → overwritten c empty ≡ c
unfolding insert_all
overwritten-nothing c = refl

only : (o : Option (Option Scalar)) → first_of o None ≡ o
only (Some x) = refl
only None = refl

nothing-overwritten : (c : Changes) → overwritten empty c ≡ c
nothing-overwritten c = same_changes_map (overwritten empty c) c (λ name. get-composed empty c name ∙ only (get c name))

changes-first : (c : Changes) (priority : Bool) → c ≡ changes_of_both c empty priority
changes-first c true = sym (nothing-overwritten c)
changes-first c false = sym (overwritten-nothing c)

changes-second : (e : Changes) (priority : Bool) → e ≡ changes_of_both empty e priority
changes-second e true = sym (overwritten-nothing e)
changes-second e false = sym (nothing-overwritten e)

fate-first : (f : Fate) (priority : Bool) → f ≡ fate_of_both f (Keep empty) priority
fate-first Del priority = refl
fate-first (Keep c) priority = ap Keep (changes-first c priority)

fate-second : (e : Fate) (priority : Bool) → e ≡ fate_of_both (Keep empty) e priority
fate-second Del priority = refl
fate-second (Keep e) priority = ap Keep (changes-second e priority)

inserts-both : (a b : Gaps) (priority : Bool) (i : ℕ) → inserted_at (both_at_once a b priority) i ≡ in_turn (inserted_at a i) (inserted_at b i) priority
inserts-both (End xs) (End ys) priority zero = refl
inserts-both (End xs) (End ys) priority (suc i) = turn-first [] priority
inserts-both (End xs) (Gap ys e h) priority zero = refl
inserts-both (End xs) (Gap ys e h) priority (suc i) = turn-second (inserted_at h i) priority
inserts-both (Gap xs f g) (End ys) priority zero = refl
inserts-both (Gap xs f g) (End ys) priority (suc i) = turn-first (inserted_at g i) priority
inserts-both (Gap xs f g) (Gap ys e h) priority zero = refl
inserts-both (Gap xs f g) (Gap ys e h) priority (suc i) = inserts-both g h priority i

fate-both : (a b : Gaps) (priority : Bool) (i : ℕ) → fate_at (both_at_once a b priority) i ≡ fate_of_both (fate_at a i) (fate_at b i) priority
fate-both (End xs) (End ys) priority i = fate-first (Keep empty) priority
fate-both (End xs) (Gap ys e h) priority zero = fate-second e priority
fate-both (End xs) (Gap ys e h) priority (suc i) = fate-second (fate_at h i) priority
fate-both (Gap xs f g) (End ys) priority zero = fate-first f priority
fate-both (Gap xs f g) (End ys) priority (suc i) = fate-first (fate_at g i) priority
fate-both (Gap xs f g) (Gap ys e h) priority zero = refl
fate-both (Gap xs f g) (Gap ys e h) priority (suc i) = fate-both g h priority i

units_below-both : (a b : Gaps) (priority : Bool) → units_below (both_at_once a b priority) ≡ max (units_below a) (units_below b)
units_below-both (End xs) (End ys) priority = refl
units_below-both (End xs) (Gap ys e h) priority = omega arith
units_below-both (Gap xs f g) (End ys) priority = omega arith
units_below-both (Gap xs f g) (Gap ys e h) priority = omega (arith, units_below-both g h priority)

pub both_at_each_place : BothAtEachPlace
both_at_each_place a b priority = (inserts-both a b priority, fate-both a b priority, units_below-both a b priority)
