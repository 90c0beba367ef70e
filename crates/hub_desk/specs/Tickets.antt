-- What a desk answers by what was submitted.
use Rattle.std.specs.Prelude.{◌≡◌, ℕ, true, List, [], ◌∷◌, Result, Ok, Err, OnOk, IfErr}
use mathlib.Core.List.{IsPrefix}
use Rattle.refusal.specs.declared.Refusal.{Refusal}
use Rattle.refusal.specs.declared.Refusal.TheVariants.{StoreFailed}
use Rattle.revision.specs.Command.{Command}
use Rattle.revision.specs.State.{State}
use Rattle.recovery.specs.Found.{commands_of}
use Rattle.world.specs.Progress.{Ticket}
use Rattle.world.specs.World.{Entry}
use Rattle.hub.specs.Found.{AreSubmittedAfter, IsSubmittedAfter}
use Rattle.hub.specs.Placed.{StandsFirst}
use Rattle.hub.specs.Submitted.{counted_all, counted_by}
use Rattle.hub.specs.declared.submit_error.SubmitError.{SubmitError}
use Rattle.hub.specs.declared.submit_error.SubmitError.TheVariants.{Stopped, ByBoard}
use Rattle.session.specs.declared.reply.Reply.{Reply}
use Rattle.session.specs.Exchange.{Exchange, Answered}
use Rattle.session.specs.Replies.{Asks}
use Rattle.hub_desk.specs.AtHub.{Desk, PassesAtHub}

-- a desk whose seat has counted so many commands, and whose commands have found that much of the order
abbrev pub with_seat : Desk → ℕ → List Entry → Desk
with_seat desk count found = record desk { counted = count; found = found }

-- A ticket was waited for: the desk was perhaps told of more, and at `Ok` the ticket's order is a prefix of that. Refused with `StoreFailed` alone,
-- and then the desk has the hub's token.
pub record IsAwaited (start : State) (old : Desk) (ticket : Ticket) (result : Result (Unit {0}) Refusal) (new : Desk) : Type 0 where
  pub kept : IsPrefix old.told new.told
  pub others : new ≡ record old { told = new.told; stopped = new.stopped }
  pub stands : OnOk result (StandsFirst start ticket (commands_of new.told))
  pub only : IfErr result (λ e. (e ≡ StoreFailed) × (new.stopped ≡ true))

module _ {L : Type 0} where
  -- the last ticket of them, or this one where there is none
  abbrev pub last_by : Ticket → Result Ticket (SubmitError L) → Ticket
  last_by ticket (Ok next) = next
  last_by ticket (Err why) = ticket

  abbrev pub last_of : Ticket → List (Result Ticket (SubmitError L)) → Ticket
  last_of ticket [] = ticket
  last_of ticket (first ∷ others) = last_of (last_by ticket first) others

  -- the desk once it has noted why a command wasn't submitted
  abbrev pub noted : Desk → SubmitError L → Desk
  noted desk (Stopped token) = record desk { stopped = true }
  noted desk (ByBoard refusal) = desk

  -- What is answered by a submission of this command, however many commands the seat had counted before it, and whatever was found of
  -- the order by then.
  abbrev pub AnswersFor : State → Desk → Command → Result Ticket (SubmitError L) → Result Reply Refusal → Desk → Type 0
  AnswersFor start old command submitted result new =
      (count : ℕ) (before after : List Entry) → IsSubmittedAfter start old.shown before command submitted after
      → PassesAtHub start (with_seat old count before) (Answered command result) (with_seat new (counted_by count submitted) after)

  -- What commands were answered by their submissions, where the last one found all that this desk has found.
  abbrev pub AnswersForAll : State → Desk → List Command → List (Result Ticket (SubmitError L)) → List Exchange → Desk → Type 0
  AnswersForAll start old commands submitted asked new =
      (count : ℕ) (before : List Entry) → AreSubmittedAfter start old.shown before commands submitted old.found
      → Asks (PassesAtHub start) (with_seat old count before) asked (with_seat new (counted_all count submitted) old.found)
