-- What a command that is submitted finds of the order, and what comes of it there.
use Rattle.std.specs.Prelude.{◌≡◌, List, [], ◌∷◌, Option, Some, None, Result, Ok, Err, IfOk}
use mathlib.Core.List.{IsPrefix}
use Rattle.refusal.specs.declared.Refusal.{Refusal}
use Rattle.revision.specs.Command.{Taken, Command}
use Rattle.revision.specs.State.{State, fold}
use Rattle.recovery.specs.Found.{commands_of}
use Rattle.world.specs.Progress.{Ticket}
use Rattle.world.specs.Submitting.{IsRefusedIn}
use Rattle.world.specs.World.{Entry, takens}
use Rattle.published.specs.Order.{IsLegal}
use Rattle.hub.specs.Given.{GaveTicket}
use Rattle.hub.specs.Placed.{IsPlaced}
use Rattle.hub.specs.declared.submit_error.SubmitError.{SubmitError}
use Rattle.hub.specs.declared.submit_error.SubmitError.TheVariants.{Stopped, ByBoard}

-- what was found of the order: nothing, where nothing was found yet
abbrev pub all_found : Option (List Entry) → List Entry
all_found None = []
all_found (Some order) = order

-- a command is refused so after this order
abbrev pub IsRefusedAfter : State → List Entry → Command → Refusal → Type 0
IsRefusedAfter start order command refusal = IsRefusedIn (fold start (takens order)) command refusal

module _ {L : Type 0} where
  -- What comes of a command behind which the order is this: a ticket of just this order, or a refusal by it. That the store had failed or
  -- the hub had ended a token says.
  abbrev pub IsGivenAt : State → List Entry → Command → Result Ticket (SubmitError L) → Type 0
  IsGivenAt start order command (Ok ticket) = GaveTicket start command ticket × IsPlaced start order ticket
  IsGivenAt start order command (Err (Stopped token)) = Unit {0}
  IsGivenAt start order command (Err (ByBoard refusal)) = IsRefusedAfter start order command refusal

-- A command was submitted by one who was told of these batches and had found that much of the order: what comes of it is by an order that
-- begins with all that. The order is a legal history from the start of the run, and is found from then on.
pub record IsSubmittedAfter {L : Type 0} (start : State) (told : List (List Taken)) (old : List Entry) (command : Command) (submitted : Result Ticket (SubmitError L)) (new : List Entry) : Type 0 where
  pub legal : IsLegal start new
  pub given : IsGivenAt start new command submitted
  pub of_command : IfOk submitted (λ ticket. ticket.command ≡ command)
  pub found : IsPrefix old new
  pub begins : IsPrefix (commands_of told) (takens new)

module _ {L : Type 0} where
  -- Commands were submitted one after another: the answer to each is by an order that begins with what the one before it found.
  abbrev pub AreSubmittedAfter : State → List (List Taken) → List Entry → List Command → List (Result Ticket (SubmitError L)) → List Entry → Type 0
  AreSubmittedAfter start told old [] [] new = new ≡ old
  AreSubmittedAfter start told old [] (first ∷ others) new = ⊥
  AreSubmittedAfter start told old (command ∷ commands) [] new = ⊥
  AreSubmittedAfter start told old (command ∷ commands) (first ∷ others) new =
      (mid : List Entry) × IsSubmittedAfter start told old command first mid × AreSubmittedAfter start told mid commands others new
