-- What the calls of a board do to it. Behind a hub's lock the same calls do the same.
use Rattle.std.specs.Prelude.{◌≡◌, ◌⊎◌, ◌≤◌, ◌↔◌, ℕ, true, false, List, [], Option, Some, None, Result, Ok, length, IfOk, IfErr, IfSome, OnOk, OnErr, IsOk, IsErrOf}
use mathlib.Core.List.{IsPrefix}
use Rattle.refusal.specs.declared.Refusal.{Refusal}
use Rattle.refusal.specs.declared.Refusal.TheVariants.{StoreFailed, Stranger}
use Rattle.revision.specs.Command.{Taken, Command}
use Rattle.revision.specs.State.{State}
use Rattle.journal.specs.BatchSpelling.{batch_width}
use Rattle.recovery.specs.Found.{commands_of}
use Rattle.world.specs.Progress.{Ticket, can_ack, next_run, settled_more, taken_more}
use Rattle.world.specs.Submitting.{IsSubmitted}
use Rattle.world.specs.World.{takens}
use Rattle.hub.specs.Legal.{Board}
use Rattle.hub.specs.Placed.{IsPlaced, StandsFirst}
use Rattle.hub.specs.Runs.{IsLongest, MaySettle, Run, Writer, counts_settled, counts_taken, untaken}

-- A command was submitted. Where the store has failed it is refused as that; else it is answered as the rule of acceptance says after what is
-- ordered. A ticket is of the order that has its command.
pub record IsSubmittedTo (start : State) (old : Board) (command : Command) (given : Result Ticket Refusal) (new : Board) : Type 0 where
  pub works : OnOk given (old.failed ≡ false)
  pub failed : old.failed ≡ true → IsErrOf given StoreFailed
  pub answered : old.failed ≡ false → IsSubmitted old.progress command given new.progress
  pub placed : IfOk given (IsPlaced start new.progress.order)
  pub others : new ≡ record old { progress = new.progress }
  pub unchanged : OnErr given (new ≡ old)

-- A run was taken off: the longest one of the next commands whose batch has at most so many bytes.
pub record IsTakenOff (old : Board) (bytes : ℕ) (run : Run) (new : Board) : Type 0 where
  pub longest : IsLongest bytes (untaken old.progress) (length run.commands)
  pub next : run.commands ≡ takens (next_run old.progress (length run.commands))
  pub cap : run.cap ≡ bytes
  pub place : run.place ≡ old.progress.taken
  pub moves : new ≡ record old { progress = taken_more old.progress (length run.commands) }

-- A run was taken off that comes next after what a writer has taken off, and the writer counts it.
pub record ComesOff (old : Writer) (bytes : ℕ) (run : Run) (new : Writer) : Type 0 where
  pub fits : (run.commands ≡ []) ⊎ (batch_width run.commands ≤ bytes)
  pub cap : run.cap ≡ bytes
  pub place : run.place ≡ old.taken
  pub counts : new ≡ counts_taken old (length run.commands)

-- a board once a batch is settled, with which these batches are published
abbrev pub settled_with : Board → List Taken → List (List Taken) → Board
settled_with board batch told = record board { progress = settled_more board.progress (length batch); told = told }

-- A batch was settled, or refused, exactly where it may not be settled, and then nothing has changed. What was told begins the order in any
-- case.
pub record IsSettledOn (old : Board) (batch : List Taken) (told : List (List Taken)) (answer : Result (Unit {0}) Refusal) (new : Board) : Type 0 where
  pub moves : OnOk answer (new ≡ settled_with old batch told)
  pub may : OnOk answer (MaySettle old.progress batch (length (commands_of told)))
  pub settles : MaySettle old.progress batch (length (commands_of told)) → IsOk answer
  pub begins : IsPrefix (commands_of told) (takens old.progress.order)
  pub only : IfErr answer (λ e. e ≡ Stranger)
  pub unchanged : OnErr answer (new ≡ old)

-- The batch that comes next was settled, with all that was published up to it, and the writer counts it.
pub record IsSettledNext (old : Writer) (batch : List Taken) (told token : List (List Taken)) (new : Writer) : Type 0 where
  pub settled : token ≡ told
  pub counts : new ≡ counts_settled old (length batch)

module _ {E : Type 0} where
  -- A ticket is answered with the token of what is settled exactly where its length is, and with none exactly where it isn't and the store
  -- hasn't failed.
  pub record IsAcked (board : Board) (ticket : Ticket) (answer : Result (Option (List (List Taken))) E) : Type 0 where
    pub settled : (can_ack board.progress ticket ≡ true) ↔ (answer ≡ Ok (Some board.told))
    pub waits : (answer ≡ Ok None) ↔ ((can_ack board.progress ticket ≡ false) × (board.failed ≡ false))

  -- the order of a ticket that is answered with a token is a prefix of what the token names
  abbrev pub StandsAt : State → Ticket → Result (Option (List (List Taken))) E → Type 0
  StandsAt start ticket answer = IfOk answer (λ told. IfSome told (λ t. StandsFirst start ticket (commands_of t)))
