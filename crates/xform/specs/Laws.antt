-- What holds of any two deltas of one document.
use Rattle.std.specs.Prelude.{◌≡◌, ℕ, ◌+◌, Bool, not, List, ◌++◌, length, max}
use Rattle.delta.specs.Element.{Element}
use Rattle.delta.specs.Gaps.{Gaps, apply, units_below}
use Rattle.delta.specs.Places.{IsDefined, inserted_at, fate_at}
use Rattle.xform.specs.Both.{in_turn, fate_of_both, both_at_once}
use Rattle.xform.specs.After.{beside, after}
use Rattle.xform.specs.Place.{place, up_to, onward}

-- the first and then the second after it, both at once, and the second and then the first after it: one document
pub record SameBothWays (d : List Element) (a b : Gaps) (priority : Bool) : Type 0 where
  pub first_then_second : apply (apply d a) (after a b priority) ≡ apply d (both_at_once a b priority)
  pub second_then_first : apply (apply d b) (after b a (not priority)) ≡ apply d (both_at_once a b priority)

abbrev pub BothWays : Type 0
BothWays =
    (d : List Element) (a b : Gaps) (priority : Bool) → IsDefined d a → IsDefined d b → SameBothWays d a b priority

-- the second after the first is defined on the document after the first
abbrev pub DefinedAfter : Type 0
DefinedAfter =
    (d : List Element) (a b : Gaps) (priority : Bool) → IsDefined d a → IsDefined d b
    → IsDefined (apply d a) (after a b priority)

-- what is put beside at one place speaks of the units that the first inserts there, and of those behind
abbrev pub UnitsBeside : Type 0
UnitsBeside = (xs ys : List Element) (priority : Bool) (g : Gaps)
    → units_below (beside xs ys priority g) ≡ length xs + units_below g

-- both at once, place by place: their inserts in turn, a unit's fate of the two, and as many units as either speaks of
abbrev pub BothAtEachPlace : Type 0
BothAtEachPlace = (a b : Gaps) (priority : Bool)
    → ((i : ℕ) → inserted_at (both_at_once a b priority) i ≡ in_turn (inserted_at a i) (inserted_at b i) priority)
    × ((i : ℕ) → fate_at (both_at_once a b priority) i ≡ fate_of_both (fate_at a i) (fate_at b i) priority)
    × (units_below (both_at_once a b priority) ≡ max (units_below a) (units_below b))

-- a place between two parts of a document: each part becomes what the delta makes of it, and the place stands between
-- them
abbrev pub PlaceBetween : Type 0
PlaceBetween = (d e : List Element) (g : Gaps) (priority : Bool)
    → (apply (d ++ e) g ≡ apply d (up_to g (length d) priority) ++ apply e (onward g (length d) priority))
    × (length (apply d (up_to g (length d) priority)) ≡ place g (length d) priority)
