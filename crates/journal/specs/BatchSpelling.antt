-- How the journal spells a batch of commands that were taken.
use Rattle.std.specs.Prelude.{ℕ, ◌+◌, ◌<◌, ◌≤◌, ◌^◌, Option, Some, None, List, [], ◌∷◌, ◌++◌, length, All, sum_by}
use Rattle.std.specs.List.{flat_map}
use Rattle.std.specs.Int.{w32, w64}
use Rattle.delta.specs.Operation.{Operation}
use Rattle.revision.specs.Command.{Taken, IsTaken, width_of}
use Rattle.revision.specs.declared.step.Step.{Step}
use Rattle.revision.specs.declared.step.Step.TheVariants.{Edits, Deletes, Revives}
use Rattle.journal.specs.Spelling.{number, text16}
use Rattle.journal.specs.DeltaSpelling.{delta}

-- an entry's tag: 1 for a creation, 2 for an edit or an undo, 3 for a deletion, 4 for a creation of a document that is deleted
abbrev pub step_tag : Step → ℕ
step_tag Edits = 2
step_tag Deletes = 3
step_tag Revives = 4

abbrev pub entry_tag : Option (List ℕ) → Step → ℕ
entry_tag None step = step_tag step
entry_tag (Some name) step = 1

-- the name of the document, in a creation alone
unfoldable pub created_name : Option (List ℕ) → List ℕ
created_name None = []
created_name (Some name) = text16 name

-- the delta, which a deletion doesn't have
unfoldable pub step_delta : Step → List Operation → List ℕ
step_delta Edits change = delta change
step_delta Deletes change = []
step_delta Revives change = delta change

-- a command that was taken
unfoldable pub entry : Taken → List ℕ
entry taken =
    entry_tag taken.name taken.step ∷ number w32 taken.document ++ number w64 taken.revision ++ text16 taken.source
    ++ number w64 taken.number ++ created_name taken.name ++ step_delta taken.step taken.delta

-- the commands in order, behind their count
unfoldable pub batch : List Taken → List ℕ
batch commands = number w32 (length commands) ++ flat_map entry commands

-- what has a spelling: one command or more, each of them taken
pub record IsBatch (commands : List Taken) : Type 0 where
  pub some : 1 ≤ length commands
  pub short : length commands < 2 ^ 32
  pub taken : All IsTaken commands

-- how many bytes a batch takes in the journal: its count, and the width of each command
abbrev pub batch_width : List Taken → ℕ
batch_width commands = 4 + sum_by width_of commands
