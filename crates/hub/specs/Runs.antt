-- Which commands of the order make a batch.
use Rattle.std.specs.Prelude.{◌≡◌, ◌⊎◌, ◌<◌, ◌≤◌, ◌+◌, ◌^◌, ◌++◌, ◌∷◌, [], ℕ, true, List, drop, length, take}
use Rattle.delta.specs.Element.{Element}
use Rattle.revision.specs.Command.{Taken}
use Rattle.revision.specs.Made.{AreMade}
use Rattle.revision.specs.State.{State, fold}
use Rattle.journal.specs.BatchSpelling.{batch_width}
use Rattle.recovery.specs.Found.{commands_of}
use Rattle.world.specs.Progress.{Progress, can_settle}
use Rattle.world.specs.World.{Entry, takens}

-- The longest run of the first commands that the journal spells in so many bytes as one batch: it is none, or fits, and one command
-- more wouldn't fit.
pub record IsLongest (cap : ℕ) (commands : List Taken) (count : ℕ) : Type 0 where
  pub within : count ≤ length commands
  pub fits : (count ≡ 0) ⊎ (batch_width (take count commands) ≤ cap)
  pub longest : count < length commands → cap < batch_width (take (count + 1) commands)

-- A run that was taken off: its commands, how many bytes their batch could have, and how many commands the order has before them.
pub record Run : Type 0 where
  pub commands : List Taken
  pub cap : ℕ
  pub place : ℕ

-- the commands of a run are the next ones of the order after so many, and these are fewer than 2^64 with them
pub record IsPart (commands : List Taken) (place : ℕ) (order : List Entry) : Type 0 where
  pub within : place + length commands ≤ length order
  pub few : place + length commands < 2 ^ 64
  pub part : commands ≡ take (length commands) (drop place (takens order))

-- Beside the first of these commands stands what each of them leaves in its document, where they come after so many commands of an order
-- from this state.
abbrev pub AreMadeThere : State → List Entry → ℕ → List Taken → List (List Element) → Type 0
AreMadeThere start order place commands documents = AreMade (fold start (takens (take place order))) commands documents

-- the commands that are not taken off yet
abbrev pub untaken : Progress Entry → List Taken
untaken board = takens (drop board.taken board.order)

-- A batch may be settled: it is the next part of the order after what is settled, all of it is taken off, and what was told to be
-- published ends with it.
pub record MaySettle (board : Progress Entry) (batch : List Taken) (told : ℕ) : Type 0 where
  pub next : batch ≡ takens (take (length batch) (drop board.settled board.order))
  pub count : can_settle board (length batch) told ≡ true

-- what the one who writes has taken off the order, how much of that is settled, and 1 once it was told that all of the order is taken off and
-- nothing comes any more, 0 before
pub record Writer : Type 0 where
  pub taken : ℕ
  pub settled : ℕ
  pub ended : ℕ

-- what a board itself counts of that
abbrev pub counts_of : Progress Entry → Writer
counts_of board = record { taken = board.taken; settled = board.settled; ended = 0 }

-- As much of a board's order is taken off and settled as a writer counts; all of it, where the writer was told that nothing comes any more.
pub record IsCountedBy (writer : Writer) (board : Progress Entry) : Type 0 where
  pub taken : writer.taken ≡ board.taken
  pub settled : writer.settled ≡ board.settled
  pub all : writer.ended ≡ 1 → writer.taken ≡ length board.order

-- A batch comes next after what a writer has settled: it has a command, what was told to be published ends with it, and has before it as many
-- commands as are settled; and all of it is taken off.
pub record ComesNext (writer : Writer) (batch : List Taken) (told : List (List Taken)) : Type 0 where
  pub before : List (List Taken)
  pub ends : told ≡ before ++ batch ∷ []
  pub some : 1 ≤ length batch
  pub settled : length (commands_of before) ≡ writer.settled
  pub taken : writer.settled + length batch ≤ writer.taken

-- so many commands more are taken off, or settled
abbrev pub counts_taken : Writer → ℕ → Writer
counts_taken writer count = record writer { taken = writer.taken + count }

abbrev pub counts_settled : Writer → ℕ → Writer
counts_settled writer count = record writer { settled = writer.settled + count }

-- it was told that nothing comes any more
abbrev pub counts_ended : Writer → Writer
counts_ended writer = record writer { ended = 1 }
