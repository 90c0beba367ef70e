-- Deltas that stand on a document in turn: the first of them, and those that are left.
use Rattle.std.proofs.Common.{ℕ, zero, suc, ◌+◌, ◌≤◌, List, [], ◌∷◌, length, take, drop, arith}
use Rattle.delta.specs.Element.{Element}
use Rattle.delta.specs.Operation.{Operation}
use Rattle.delta.specs.Gaps.{counted, apply}
use Rattle.compose.specs.Many.{applied}
use Rattle.revision.specs.Late.{all_inserted}
use Rattle.revision.specs.Past.{StandInTurn}
use Rattle.revision.proofs.Room.{longer-by}
pub use Rattle.attributes.proofs.CallerLemmas.{drop-here}

-- so do the first of them
pub stand-take : (n : ℕ) (units : List Element) (deltas : List (List Operation)) → StandInTurn units deltas → StandInTurn units (take n deltas)
stand-take zero units deltas stand = tt
stand-take (suc n) units [] stand = tt
stand-take (suc n) units (taken ∷ others) stand = (stand.0, stand-take n (apply units (counted taken)) others stand.1)

-- and those that are left, on the document after the first
pub stand-drop : (n : ℕ) (units : List Element) (deltas : List (List Operation)) → StandInTurn units deltas → StandInTurn (applied units (take n deltas)) (drop n deltas)
stand-drop zero units deltas stand = stand
stand-drop (suc n) units [] stand = tt
stand-drop (suc n) units (taken ∷ others) stand = stand-drop n (apply units (counted taken)) others stand.1

-- the document after the first, and what those that are left insert, are no longer than the document and what all insert
pub room-drop : (n : ℕ) (units : List Element) (deltas : List (List Operation)) → StandInTurn units deltas
    → length (applied units (take n deltas)) + all_inserted (drop n deltas) ≤ length units + all_inserted deltas
room-drop zero units deltas stand = omega arith
room-drop (suc n) units [] stand = omega arith
room-drop (suc n) units (taken ∷ others) stand =
    omega (arith, longer-by units taken stand.0.0, room-drop n (apply units (counted taken)) others stand.1)
