-- Changes of a document as a caller sees them.
use Rattle.std.specs.Prelude.{ℕ, List}
use Rattle.delta.specs.Operation.{Operation}

-- the deltas that were taken of a document after a revision
pub record Changes : Type 0 where
  pub name : List ℕ
  pub last : ℕ
  pub deltas : List (List Operation)
