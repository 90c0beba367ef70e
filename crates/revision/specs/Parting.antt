-- Whether a delta parts a surrogate pair of a document, as a test.
use Rattle.std.specs.Prelude.{◌≡◌, ◌↔◌, Bool, true, List}
use Rattle.delta.specs.Element.{Element}
use Rattle.delta.specs.Operation.{Operation}
use Rattle.delta.specs.Gaps.{counted}
use Rattle.document.specs.Places.{Cuts}
use Rattle.compose.specs.steps.PairTest.{cuts_units}

-- some pair of the units has two fates, or something is inserted between its two
abbrev pub parts_pair : List Operation → List Element → Bool
parts_pair delta units = cuts_units units (counted delta)

-- it is true exactly where the delta cuts a pair
abbrev pub PartsTold : Type 0
PartsTold = (delta : List Operation) (units : List Element) → (parts_pair delta units ≡ true) ↔ Cuts units (counted delta)
