-- Where a ticket's command stands in the order.
use Rattle.std.specs.Prelude.{◌≡◌, ◌≤◌, Some, List, [], ◌∷◌, ◌++◌, length}
use mathlib.Core.List.{IsPrefix}
use Rattle.revision.specs.Command.{Taken, Command}
use Rattle.revision.specs.State.{State, fold}
use Rattle.revision.specs.Acceptance.{Takes, Repeats, Reply, TakenAt, AgainAt, Refused, answer}
use Rattle.world.specs.Progress.{Progress, Ticket, submitted, ticket_of}
use Rattle.world.specs.World.{Entry, entry_of, takens}
use Rattle.published.specs.Order.{HasNumber, IsLegal}
use Rattle.hub.specs.Legal.{IsHistory}

-- The command is the last one of this order, taken there as that revision; or it was there already, or in the start, as that revision.
abbrev pub PlacedBy : State → List Entry → Command → Reply → Type 0
PlacedBy start order command (TakenAt revision) =
    (before : List Entry) × (taken : Taken) × (order ≡ before ++ entry_of command taken ∷ [])
    × (answer (fold start (takens before)) command ≡ Takes taken) × (taken.revision ≡ revision)
PlacedBy start order command (AgainAt revision) = answer (fold start (takens order)) command ≡ Repeats revision
PlacedBy start order command (Refused refusal) = ⊥

-- The ticket is of this order: the order has its length, and its reply is what became of its command there.
pub record IsPlaced (start : State) (order : List Entry) (ticket : Ticket) : Type 0 where
  pub long : length order ≡ ticket.length
  pub reply : PlacedBy start order ticket.command ticket.reply

-- The order of the ticket, which is a legal history, is a prefix of these commands.
pub record StandsFirst (start : State) (ticket : Ticket) (commands : List Taken) : Type 0 where
  pub order : List Entry
  pub legal : IsLegal start order
  pub placed : IsPlaced start order ticket
  pub first : IsPrefix (takens order) commands

-- What a board is after it has given a ticket, by the order before it.
pub record WasSubmitted (start : State) (order : List Entry) (ticket : Ticket) (new : Progress Entry) : Type 0 where
  pub old : Progress Entry
  pub ordered : order ≡ old.order
  pub begun : old.start ≡ start
  pub history : IsHistory old
  pub within : old.taken ≤ length old.order
  pub submits : new ≡ submitted (entry_of ticket.command) old ticket.command
  pub given : Some ticket ≡ ticket_of old ticket.command
  pub numbered : HasNumber ticket.command
