-- One delta for several in turn, from the left.
use Rattle.std.specs.Prelude.{◌≡◌, ◌+◌, ℕ, List, [], ◌∷◌}
use Rattle.delta.specs.Element.{Element}
use Rattle.delta.specs.Operation.{Operation, base_of, out_of}
use Rattle.delta.specs.Gaps.{counted, apply}
use Rattle.delta.specs.Normal.{IsNormal}
use Rattle.delta.specs.Places.{IsDefined}
use Rattle.compose.specs.Composed.{one_for}

-- the first and then all others, each over what is there
abbrev pub many_after : List Operation → List (List Operation) → List Operation
many_after first [] = first
many_after first (next ∷ others) = many_after (one_for first next) others

-- all in turn; none at all is no operation
abbrev pub many : List (List Operation) → List Operation
many deltas = many_after [] deltas

-- each is defined on what those before it leave of a document
abbrev pub AreDefined : List Element → List (List Operation) → Type 0
AreDefined d [] = Unit {0}
AreDefined d (first ∷ others) = IsDefined d (counted first) × AreDefined (apply d (counted first)) others

-- a document after all of them
abbrev pub applied : List Element → List (List Operation) → List Element
applied d [] = d
applied d (first ∷ others) = applied (apply d (counted first)) others

-- one composes all: it is in normal form, and where all are defined in turn, so is it, with the same result
pub record ComposesAll (one : List Operation) (deltas : List (List Operation)) : Type 0 where
  pub normal : IsNormal one
  pub defined : (d : List Element) → AreDefined d deltas → IsDefined d (counted one)
  pub effect : (d : List Element) → AreDefined d deltas → apply d (counted one) ≡ applied d deltas

-- the base and the output lengths of all, added up
abbrev pub lengths_of : List (List Operation) → ℕ
lengths_of [] = 0
lengths_of (ops ∷ others) = (base_of ops + out_of ops) + lengths_of others
