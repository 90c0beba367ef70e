-- What stands behind the lock at any time that it is free.
use Rattle.std.specs.Prelude.{◌≡◌, ◌≤◌, ◌+◌, ℕ, Bool, List, length}
use mathlib.Core.List.{IsPrefix}
use Rattle.revision.specs.Command.{Taken}
use Rattle.revision.specs.State.{State, fold}
use Rattle.revision.specs.Acceptance.{Reply, TakenAt, AgainAt, Refused}
use Rattle.recovery.specs.Found.{commands_of}
use Rattle.published.specs.Order.{IsLegal}
use Rattle.world.specs.Progress.{Progress}
use Rattle.world.specs.World.{Entry, takens}

-- the order and how far it is written, whether the store under it has failed, the batches that were published up to what is settled, and how
-- many seats there are left to give
pub record Board : Type 0 where
  pub progress : Progress Entry
  pub failed : Bool
  pub told : List (List Taken)
  pub left : ℕ

-- seats that are used no longer: how many they are, and how many commands they have counted together
pub record Tally : Type 0 where
  pub seats : ℕ
  pub counted : ℕ

-- the order is a legal history from the start, and the state is its fold
pub record IsHistory (board : Progress Entry) : Type 0 where
  pub legal : IsLegal board.start board.order
  pub state : board.state ≡ fold board.start (takens board.order)

-- No more is settled than is taken off, no more is taken off than the order has, and what was published is the prefix of the order that is
-- settled.
pub record IsWithin (board : Progress Entry) (told : List (List Taken)) : Type 0 where
  pub settled : board.settled ≤ board.taken
  pub taken : board.taken ≤ length board.order
  pub published : length (commands_of told) ≡ board.settled
  pub begins : IsPrefix (commands_of told) (takens board.order)

-- how many commands a seat has counted after a reply: one more where the command was taken
abbrev pub counted : ℕ → Reply → ℕ
counted count (TakenAt revision) = count + 1
counted count (AgainAt revision) = count
counted count (Refused refusal) = count

-- a board at some moment of a run that began with this state: its order is a legal history
pub record IsOfRun (start : State) (board : Progress Entry) : Type 0 where
  pub begun : board.start ≡ start
  pub history : IsHistory board

-- the order had so many commands at some moment of such a run
pub record WasOrdered (start : State) (count : ℕ) : Type 0 where
  pub board : Progress Entry
  pub run : IsOfRun start board
  pub ordered : count ≡ length board.order
