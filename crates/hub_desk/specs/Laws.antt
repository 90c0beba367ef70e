-- What follows where a command stands in a state: each law is promised by a function of `laws`.
use Rattle.std.specs.Prelude.{◌≡◌, ◌⊎◌, ◌≤◌, ◌<◌, ℕ, Bool, true, false, List, Option, Some, None, Ok, Any}
use mathlib.Core.List.{IsPrefix}
use Rattle.refusal.specs.declared.Refusal.{Refusal}
use Rattle.refusal.specs.declared.Refusal.TheVariants.{Exists, OldNumber}
use Rattle.revision.specs.Window.{revision_in}
use Rattle.revision.specs.Command.{Action, Create, Edit, Undo, Delete, Command, Taken}
use Rattle.revision.specs.State.{State, DocumentRecord, is_live, find, all_grow, fold}
use Rattle.revision.specs.Acceptance.{Repeats, Refuses, answer}
use Rattle.revision.specs.Agree.{Agree}
use Rattle.recovery.specs.Found.{commands_of}
use Rattle.world.specs.Progress.{Ticket}
use Rattle.world.specs.Law.{window_held}
use Rattle.hub.specs.Given.{WasRefused}
use Rattle.hub.specs.Placed.{StandsFirst}
use Rattle.session.specs.declared.reply.Reply.{Reply}
use Rattle.session.specs.Alone.{answered}
use Rattle.session.specs.Exchange.{Exchange}
use Rattle.session.specs.Replies.{Asks}
use Rattle.session.specs.Reply.{rev_of}
use Rattle.hub_desk.specs.AtHub.{Desk, IsRefusedAt, PassesAtHub}
use Rattle.hub_desk.specs.Standing.{StandsIn, AllStand}

-- a document is there, and isn't deleted
abbrev pub lives : Option (ℕ × DocumentRecord) → Bool
lives None = false
lives (Some found) = is_live found.1

-- why a command is refused whose number is below its source's window: the number is old, or it would create a document that is there
abbrev pub refusal_of_old : Action → Bool → Refusal
refusal_of_old (Create delta) true = Exists
refusal_of_old (Create delta) false = OldNumber
refusal_of_old (Edit base delta) live = OldNumber
refusal_of_old Undo live = OldNumber
refusal_of_old Delete live = OldNumber

-- Sent again it isn't taken: it is a retry with that revision where its number is in its source's window, and refused where it is lower.
abbrev pub IsNotTakenAgain : Type 0
IsNotTakenAgain = (state : State) (command : Command) (revision : ℕ) → 1 ≤ command.number → StandsIn state command revision
    → ((revision_in command.number (window_held state command) ≡ Some revision) × (answer state command ≡ Repeats revision))
    ⊎ ((revision_in command.number (window_held state command) ≡ None) × (command.number < (window_held state command).number)
    × (answer state command ≡ Refuses (refusal_of_old command.action (lives (find command.name 0 state.documents)))))

-- Further commands that continue the state leave it there,
abbrev pub StandsLater : Type 0
StandsLater = (state : State) (commands : List Taken) (command : Command) (revision : ℕ) → all_grow state commands ≡ true
    → StandsIn state command revision → StandsIn (fold state commands) command revision

-- and it stands in each state that agrees with this one, as a state does that was recovered.
abbrev pub StandsAlike : Type 0
StandsAlike = (there state : State) (command : Command) (revision : ℕ) → Agree there state → StandsIn state command revision
    → StandsIn there command revision

-- What was taken is of this command: of its source, with its number, in the document that has its name in the state; and where its number is
-- in the source's window there as this revision, it made this revision.
pub record IsTakenOf (state : State) (command : Command) (revision : ℕ) (taken : Taken) : Type 0 where
  pub source : taken.source ≡ command.source
  pub number : taken.number ≡ command.number
  pub document : (found : DocumentRecord) × (find command.name 0 state.documents ≡ Some (taken.document, found))
  pub made : revision_in command.number (window_held state command) ≡ Some revision → taken.revision ≡ revision

-- Where it stands after commands, and the state before them hadn't its number, it is one of them.
abbrev pub WasTakenAmong : Type 0
WasTakenAmong = (state : State) (commands : List Taken) (command : Command) (revision : ℕ) → all_grow state commands ≡ true
    → (window_held state command).number < command.number → StandsIn (fold state commands) command revision
    → Any (IsTakenOf (fold state commands) command revision) commands

-- A command whose ticket's order is a prefix of commands that continue the start stands in what these make, as the revision of its reply.
abbrev pub PlacedStands : Type 0
PlacedStands = (start : State) (ticket : Ticket) (commands : List Taken) (reply : Reply) → all_grow start commands ≡ true
    → StandsFirst start ticket commands → answered ticket.reply ≡ Ok reply → StandsIn (fold start commands) ticket.command (rev_of reply)

-- No exchange makes a desk forget what it was told of.
abbrev pub ToldKept : Type 0
ToldKept = (start : State) (asked : List Exchange) (old new : Desk) → Asks (PassesAtHub start) old asked new → IsPrefix old.told new.told

-- Nor does any exchange make less of what it has found of the order.
abbrev pub FoundKept : Type 0
FoundKept = (start : State) (asked : List Exchange) (old new : Desk) → Asks (PassesAtHub start) old asked new → IsPrefix old.found new.found

-- A refusal by the order that was found is one that a board of such a run gave.
abbrev pub RefusedByBoard : Type 0
RefusedByBoard = (start : State) (old new : Desk) (command : Command) (refusal : Refusal) → IsRefusedAt start old command refusal new → WasRefused start command refusal

-- All that a desk acknowledged stands in what the batches make that it was told of by then, and in what further ones make of that.
abbrev pub AcknowledgedStand : Type 0
AcknowledgedStand = (start : State) (old new : Desk) (asked : List Exchange) (batches : List (List Taken)) → Asks (PassesAtHub start) old asked new
    → IsPrefix new.told batches → all_grow start (commands_of batches) ≡ true → AllStand (fold start (commands_of batches)) asked
