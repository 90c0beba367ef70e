-- What holds of any two gap forms, and of any and its inverse.
use Rattle.std.specs.Prelude.{◌≡◌, ◌≤◌, ◌↔◌, true, List, length}
use Rattle.delta.specs.Element.{Element}
use Rattle.delta.specs.Operation.{Operation}
use Rattle.delta.specs.Gaps.{Gaps, counted, units_below, apply}
use Rattle.delta.specs.Places.{IsDefined}
use Rattle.document.specs.Places.{Cuts}
use Rattle.compose.specs.Composes.{Composes}
use Rattle.compose.specs.Composed.{composed, one_for}
use Rattle.compose.specs.Cuts.{CutsInserted}
use Rattle.compose.specs.Inverse.{inverse}
use Rattle.compose.specs.steps.PairTest.{cuts_units, cuts}

-- one gap form for two has the effect of the first, and then the second
abbrev pub EffectOfComposed : Type 0
EffectOfComposed = (d : List Element) (a b : Gaps) → units_below a ≤ length d → apply d (composed a b) ≡ apply (apply d a) b

-- its normal form composes them
abbrev pub ComposesByNormal : Type 0
ComposesByNormal = (a b : List Operation) → Composes (one_for a b) a b

-- and is defined where the first, and then the second, is
abbrev pub DefinedComposed : Type 0
DefinedComposed =
    (d : List Element) (a b : List Operation) → IsDefined d (counted a) → IsDefined (apply d (counted a)) (counted b)
    → IsDefined d (counted (one_for a b))

-- at most one list composes two
abbrev pub ComposesOnce : Type 0
ComposesOnce = (c e a b : List Operation) → Composes c a b → Composes e a b → c ≡ e

-- a gap form and then its inverse leave a document unchanged, wherever the first is defined (and also where it isn't)
abbrev pub Undone : Type 0
Undone = (d : List Element) (g : Gaps) → apply (apply d g) (inverse g d) ≡ d

-- the test of units is true exactly where a gap form cuts a pair of a document
abbrev pub CutsOfUnits : Type 0
CutsOfUnits = (d : List Element) (g : Gaps) → (cuts_units d g ≡ true) ↔ Cuts d g

-- and the test of two gap forms where the second cuts a pair of what the first inserts
abbrev pub CutsOfInserted : Type 0
CutsOfInserted = (a b : Gaps) → (cuts a b ≡ true) ↔ CutsInserted a b
