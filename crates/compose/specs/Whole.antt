-- Deltas that part no pair in turn, and one delta for them.
use Rattle.std.specs.Prelude.{List, [], ◌∷◌}
use Rattle.delta.specs.Element.{Element}
use Rattle.delta.specs.Operation.{Operation}
use Rattle.delta.specs.Gaps.{counted, apply}
use Rattle.document.specs.Places.{Cuts}
use Rattle.compose.specs.Many.{AreDefined}

-- each parts no pair of what those before it leave of a document
abbrev pub PartNone : List Element → List (List Operation) → Type 0
PartNone d [] = Unit {0}
PartNone d (first ∷ others) = (¬ (Cuts d (counted first))) × PartNone (apply d (counted first)) others

-- where all are defined in turn on a document and part no pair of it, the one for them parts none
abbrev pub IsWhole : List Operation → List (List Operation) → Type 0
IsWhole one deltas = (d : List Element) → AreDefined d deltas → PartNone d deltas → ¬ (Cuts d (counted one))
