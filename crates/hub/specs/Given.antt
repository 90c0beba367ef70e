-- The answer to a command that is submitted at a hub.
use Rattle.std.specs.Prelude.{◌≡◌, Bool, true, false, Some, Result, Ok, Err}
use Rattle.refusal.specs.declared.Refusal.{Refusal}
use Rattle.refusal.specs.declared.Refusal.TheVariants.{StoreFailed}
use Rattle.revision.specs.Command.{Command}
use Rattle.revision.specs.State.{State}
use Rattle.world.specs.Progress.{Progress, Ticket, ticket_of}
use Rattle.world.specs.Submitting.{IsRefusedIn}
use Rattle.world.specs.World.{Entry}
use Rattle.hub.specs.Legal.{IsOfRun}
use Rattle.hub.specs.declared.submit_error.SubmitError.{SubmitError}
use Rattle.hub.specs.declared.submit_error.SubmitError.TheVariants.{Stopped, ByBoard}

-- A board gave this ticket for a command at some moment of a run that began with this state.
abbrev pub GaveTicket : State → Command → Ticket → Type 0
GaveTicket start command ticket = (board : Progress Entry) × IsOfRun start board × (Some ticket ≡ ticket_of board command)

-- A board refused a command so at some moment of such a run.
abbrev pub WasRefused : State → Command → Refusal → Type 0
WasRefused start command refusal = (board : Progress Entry) × IsOfRun start board × IsRefusedIn board.state command refusal

module _ {L : Type 0} where
  -- The answer to a command that is submitted: a board's ticket or its refusal. That the store had failed or the hub had ended a token says.
  abbrev pub WasGiven : State → Command → Result Ticket (SubmitError L) → Type 0
  WasGiven start command (Ok ticket) = GaveTicket start command ticket
  WasGiven start command (Err (Stopped token)) = Unit {0}
  WasGiven start command (Err (ByBoard refusal)) = WasRefused start command refusal

  -- the refusal that a session is answered
  abbrev pub refusal_of : SubmitError L → Refusal
  refusal_of (Stopped token) = StoreFailed
  refusal_of (ByBoard refusal) = refusal

  -- a token says why nothing was submitted
  abbrev pub IsStopped : Result Ticket (SubmitError L) → Type 0
  IsStopped (Ok ticket) = ⊥
  IsStopped (Err (Stopped token)) = Unit {0}
  IsStopped (Err (ByBoard refusal)) = ⊥

  -- what a board answered of it
  abbrev pub as_board : Result Ticket (SubmitError L) → Result Ticket Refusal
  as_board (Ok ticket) = Ok ticket
  as_board (Err why) = Err (refusal_of why)

  -- Why a board refused a command: the token, where it had failed, and else the board's refusal.
  abbrev pub WasBy : Bool → Refusal → SubmitError L → Type 0
  WasBy failed refusal (Stopped token) = failed ≡ true
  WasBy failed refusal (ByBoard other) = (failed ≡ false) × (other ≡ refusal)
