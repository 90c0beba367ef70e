-- What passes between a session and its desk at a hub.
use Rattle.std.specs.Prelude.{◌≡◌, ◌⊎◌, ℕ, Bool, true, List, Some, None, Ok, Err}
use mathlib.Core.List.{IsPrefix}
use Rattle.refusal.specs.declared.Refusal.{Refusal}
use Rattle.refusal.specs.declared.Refusal.TheVariants.{NoMemory, StoreFailed}
use Rattle.revision.specs.Command.{Command, Taken}
use Rattle.revision.specs.State.{State, fold}
use Rattle.recovery.specs.Found.{commands_of}
use Rattle.world.specs.Progress.{Ticket}
use Rattle.world.specs.World.{Entry, takens}
use Rattle.published.specs.Order.{IsLegal}
use Rattle.hub.specs.Legal.{counted}
use Rattle.hub.specs.Found.{IsRefusedAfter}
use Rattle.hub.specs.Given.{GaveTicket}
use Rattle.hub.specs.Placed.{IsPlaced, StandsFirst}
use Rattle.session.specs.declared.reply.Reply.{Reply}
use Rattle.session.specs.Alone.{answered}
use Rattle.session.specs.Exchange.{Exchange, Answered, Shown}

-- a desk: the published batches that it was told of, those that it has shown, how many commands its seat has counted, whether it has
-- the hub's token that the store had failed or the hub had ended, and what its commands have found of the run's order
pub record Desk : Type 0 where
  pub told : List (List Taken)
  pub shown : List (List Taken)
  pub counted : ℕ
  pub stopped : Bool
  pub found : List Entry

-- A command found the order: a legal history from the start of the run, which begins with what the desk's earlier commands found of it, and
-- what the desk has shown.
pub record Finds (start : State) (old : Desk) (new : Desk) : Type 0 where
  pub legal : IsLegal start new.found
  pub found : IsPrefix old.found new.found
  pub shows : IsPrefix (commands_of old.shown) (takens new.found)

-- A command was submitted at a hub whose run began with this state: its ticket is of just this command, a board of the run gave it, and
-- the seat counts it exactly when it was taken. The order that was found then is just that of the ticket.
pub record Submits (start : State) (old : Desk) (command : Command) (ticket : Ticket) (new : Desk) : Type 0 where
  pub of_command : ticket.command ≡ command
  pub given : GaveTicket start command ticket
  pub counts : new.counted ≡ counted old.counted ticket.reply
  pub told : IsPrefix old.told new.told
  pub shown : new.shown ≡ old.shown
  pub finds : Finds start old new
  pub placed : IsPlaced start new.found ticket

-- It is answered by its ticket, once the ticket's order, in which the command has its place as the rule of acceptance says, is a prefix of
-- what the desk was told of. What is shown from then on begins with that.
pub record Acknowledges (start : State) (old : Desk) (command : Command) (reply : Reply) (new : Desk) : Type 0 where
  pub ticket : Ticket
  pub submits : Submits start old command ticket new
  pub answer : answered ticket.reply ≡ Ok reply
  pub stands : StandsFirst start ticket (commands_of new.told)

-- The hub gave its token that the store had failed or that it had ended, in place of a ticket, or before the command was settled.
pub record Stops (start : State) (old : Desk) (command : Command) (new : Desk) : Type 0 where
  pub token : new.stopped ≡ true
  pub submits : ((new ≡ record old { stopped = true; found = new.found }) × Finds start old new)
      ⊎ ((ticket : Ticket) × Submits start old command ticket new)

-- It is refused by the order that was found then, which begins with all that its session knew of; and nothing else of the desk changes.
pub record IsRefusedAt (start : State) (old : Desk) (command : Command) (refusal : Refusal) (new : Desk) : Type 0 where
  pub refused : IsRefusedAfter start new.found command refusal
  pub finds : Finds start old new
  pub others : new ≡ record old { found = new.found }

-- It is refused out of memory at the desk, which leaves it unchanged; or as the rule of acceptance answers it after the order that it found;
-- or the hub is stopped.
abbrev pub Refuses : State → Desk → Command → Refusal → Desk → Type 0
Refuses start old command refusal new =
    ((new ≡ old) × (refusal ≡ NoMemory)) ⊎ IsRefusedAt start old command refusal new ⊎ ((refusal ≡ StoreFailed) × Stops start old command new)

-- What passes between such a desk and a session, and what that leaves. What is shown is what the published batches make of the
-- start of the run, with all that the desk was told of before.
abbrev pub PassesAtHub : State → Desk → Exchange → Desk → Type 0
PassesAtHub start old (Answered command (Ok reply)) new = Acknowledges start old command reply new
PassesAtHub start old (Answered command (Err refusal)) new = Refuses start old command refusal new
PassesAtHub start old (Shown (Some state)) new =
    (state ≡ fold start (commands_of new.told)) × IsPrefix old.told new.told × (new.shown ≡ new.told) × (new.counted ≡ old.counted)
    × (new.found ≡ old.found)
PassesAtHub start old (Shown None) new =
    IsPrefix old.told new.told × (new.shown ≡ old.shown) × (new.counted ≡ old.counted) × (new.found ≡ old.found)
