-- What a delta after another makes of a document, and that both orders make the same.
use Rattle.std.proofs.Common.{◌≡◌, ◌+◌, Bool, true, false, not, List, [], ◌∷◌, ◌++◌, length, refl, sym, ap, ◌∙◌, arith}
use Rattle.std.proofs.lemmas.List.{append_assoc, length-append}
use Rattle.attributes.specs.Attributes.{Attributes, Changes, changed, transformed}
use Rattle.attributes.specs.Map.{empty}
use Rattle.attributes.proofs.CallerLemmas.{changed-changed, changed-transformed}
use Rattle.delta.specs.Element.{Element}
use Rattle.delta.specs.Gaps.{Gaps, End, Gap, Fate, Del, Keep, front, run, fated, apply, units_below}
use Rattle.delta.proofs.CallerLemmas.{units_below-front, units_below-run, apply-front, changed-empty}
use Rattle.xform.specs.Both.{in_turn, changes_of_both, fate_of_both, both_at_once}
use Rattle.xform.specs.After.{beside, left_of, after}
use Rattle.delta.specs.Places.{IsDefined}
use Rattle.xform.specs.Laws.{BothWays, DefinedAfter}

-- units that are kept
pub apply-kept : (xs d : List Element) (g : Gaps) → apply (xs ++ d) (run (length xs) (Keep empty) g) ≡ xs ++ apply d g
apply-kept [] d g = refl
apply-kept (x ∷ xs) d g =
    ap (λ l. record x { attributes = changed x.attributes empty } ∷ l) (apply-kept xs d g)
    ∙ ap (λ a. record x { attributes = a } ∷ (xs ++ apply d g)) (changed-empty x.attributes)

-- what both insert at one place
pub apply-beside : (xs ys d : List Element) (priority : Bool) (g : Gaps) → apply (xs ++ d) (beside xs ys priority g) ≡ in_turn xs ys priority ++ apply d g
apply-beside xs ys d true g =
    apply-kept xs d (front ys g) ∙ (ap (λ l. xs ++ l) (apply-front d ys g) ∙ sym (append_assoc xs ys (apply d g)))
apply-beside xs ys d false g =
    apply-front (xs ++ d) ys (run (length xs) (Keep empty) g)
    ∙ (ap (λ l. ys ++ l) (apply-kept xs d g) ∙ sym (append_assoc ys xs (apply d g)))

-- what both make of the attributes of one unit
pub changed-both : (a : Attributes) (c e : Changes) (priority : Bool) → changed (changed a c) (transformed c e priority) ≡ changed a (changes_of_both c e priority)
changed-both a c e true = changed-transformed a c e ∙ changed-changed a e c
changed-both a c e false = changed-changed a c e

-- and of the unit
pub apply-left_of : (f e : Fate) (x : Element) (d : List Element) (priority : Bool) (g : Gaps) → apply (fated f x ++ d) (left_of f e priority g) ≡ fated (fate_of_both f e priority) x ++ apply d g
apply-left_of Del e x d priority g = refl
apply-left_of (Keep c) Del x d priority g = refl
apply-left_of (Keep c) (Keep e) x d priority g =
    ap (λ a. record x { attributes = a } ∷ apply d g) (changed-both x.attributes c e priority)

pub apply-gap : (xs : List Element) (f : Fate) (g : Gaps) (d : List Element) → xs ++ apply d (Gap [] f g) ≡ apply d (Gap xs f g)
apply-gap xs f g [] = refl
apply-gap xs f g (x ∷ d) = refl

-- the first and then the second after it
pub apply-after : (d : List Element) (a b : Gaps) (priority : Bool) → IsDefined d a → apply (apply d a) (after a b priority) ≡ apply d (both_at_once a b priority)
apply-after d (End xs) (End ys) priority long = apply-beside xs ys d priority (End [])
apply-after d (End xs) (Gap ys e h) priority long =
    apply-beside xs ys d priority (Gap [] e h) ∙ apply-gap (in_turn xs ys priority) e h d
apply-after [] (Gap xs f g) b priority long = absurd (omega (arith, long))
apply-after (x ∷ d) (Gap xs f g) (End ys) priority long = apply-beside xs ys (fated f x ++ apply d g) priority (End [])
apply-after (x ∷ d) (Gap xs f g) (Gap ys e h) priority long =
    apply-beside xs ys (fated f x ++ apply d g) priority (left_of f e priority (after g h priority))
    ∙ ap (λ l. in_turn xs ys priority ++ l)
    (apply-left_of f e x (apply d g) priority (after g h priority)
    ∙ ap (λ l. fated (fate_of_both f e priority) x ++ l) (apply-after d g h priority (omega (arith, long))))

-- both at once, the other first
in_turn-turned : (xs ys : List Element) (priority : Bool) → in_turn ys xs (not priority) ≡ in_turn xs ys priority
in_turn-turned xs ys true = refl
in_turn-turned xs ys false = refl

fate_of_both-turned : (f e : Fate) (priority : Bool) → fate_of_both e f (not priority) ≡ fate_of_both f e priority
fate_of_both-turned Del Del priority = refl
fate_of_both-turned Del (Keep e) priority = refl
fate_of_both-turned (Keep c) Del priority = refl
fate_of_both-turned (Keep c) (Keep e) true = refl
fate_of_both-turned (Keep c) (Keep e) false = refl

pub both_at_once-turned : (a b : Gaps) (priority : Bool) → both_at_once b a (not priority) ≡ both_at_once a b priority
both_at_once-turned (End xs) (End ys) priority = ap End (in_turn-turned xs ys priority)
both_at_once-turned (End xs) (Gap ys e h) priority = ap (λ l. Gap l e h) (in_turn-turned xs ys priority)
both_at_once-turned (Gap xs f g) (End ys) priority = ap (λ l. Gap l f g) (in_turn-turned xs ys priority)
both_at_once-turned (Gap xs f g) (Gap ys e h) priority =
    let inserts = in_turn-turned xs ys priority in
    let fate = fate_of_both-turned f e priority in
    let rest = both_at_once-turned g h priority in
    λ i. Gap (inserts i) (fate i) (rest i)

pub both_ways : BothWays
both_ways d a b priority long_a long_b = record {
  first_then_second = apply-after d a b priority long_a;
  second_then_first = apply-after d b a (not priority) long_b ∙ ap (apply d) (both_at_once-turned a b priority);
}

-- how many units it speaks of
pub units_below-beside : (xs ys : List Element) (priority : Bool) (g : Gaps) → units_below (beside xs ys priority g) ≡ length xs + units_below g
units_below-beside xs ys true g = units_below-run (length xs) (Keep empty) (front ys g) ∙ ap (λ n. length xs + n) (units_below-front ys g)
units_below-beside xs ys false g = units_below-front ys (run (length xs) (Keep empty) g) ∙ units_below-run (length xs) (Keep empty) g

units_below-left_of : (f e : Fate) (x : Element) (priority : Bool) (g : Gaps) → units_below (left_of f e priority g) ≡ length (fated f x) + units_below g
units_below-left_of Del e x priority g = omega arith
units_below-left_of (Keep c) e x priority g = omega arith

pub defined_after : DefinedAfter
defined_after d (End xs) (End ys) priority long_a long_b = omega (arith, units_below-beside xs ys priority (End []), length-append xs d)
defined_after d (End xs) (Gap ys e h) priority long_a long_b =
    omega (arith, units_below-beside xs ys priority (Gap [] e h), length-append xs d, long_b)
defined_after [] (Gap xs f g) b priority long_a long_b = absurd (omega (arith, long_a))
defined_after (x ∷ d) (Gap xs f g) (End ys) priority long_a long_b =
    omega (arith, units_below-beside xs ys priority (End []), length-append xs (fated f x ++ apply d g))
defined_after (x ∷ d) (Gap xs f g) (Gap ys e h) priority long_a long_b =
    omega (
      arith,
      defined_after d g h priority (omega (arith, long_a)) (omega (arith, long_b)),
      units_below-beside xs ys priority (left_of f e priority (after g h priority)),
      units_below-left_of f e x priority (after g h priority),
      length-append xs (fated f x ++ apply d g),
      length-append (fated f x) (apply d g),
    )
