-- What every event keeps of a world, and all that is promised of it follows from.
use Rattle.std.specs.Prelude.{◌≡◌, ℕ, ◌≤◌, Some, List, length, take, All}
use Rattle.revision.specs.Window.{revision_in}
use Rattle.revision.specs.Command.{Command}
use Rattle.world.specs.Progress.{Ticket}
use Rattle.world.specs.World.{Entry, takens, World, last_sent}
use Rattle.world.specs.Shown.{Shown, all_shown}
use Rattle.world.specs.Law.{revision_named}
use Rattle.world.specs.steps.Placing.{window_in, AllPlaced, after}

-- After the first `length` commands the ticket's number is in its source's window, and made the revision that the reply names.
pub record Stands (documents : List Shown) (entries : List Entry) (ticket : Ticket) : Type 0 where
  pub within : ticket.length ≤ length entries
  pub made : revision_in ticket.command.number (window_in ticket.command.name ticket.command.source (after documents (take ticket.length entries)))
      ≡ Some (revision_named ticket.reply)

-- each step of the way to the device is at most as far as the one before it
pub record Counts (settled shown without with_batch taken long : ℕ) : Type 0 where
  pub settled_shown : settled ≤ shown
  pub shown_without : shown ≤ without
  pub without_with : without ≤ with_batch
  pub with_taken : with_batch ≤ taken
  pub taken_long : taken ≤ long

-- a number in the order was sent
abbrev pub WasSent : List Command → Entry → Type 0
WasSent sent entry = entry.command.number ≤ last_sent entry.command.name entry.command.source sent

-- an acknowledged ticket: it stands, and its length is settled
abbrev pub StandsSettled : List Shown → List Entry → ℕ → Ticket → Type 0
StandsSettled documents entries settled ticket = Stands documents entries ticket × (ticket.length ≤ settled)

-- What holds of a world: the order's commands have their places; the state shows what they make of the start; the counts are in
-- order; what is shown is the order's beginning; every number in the order was sent; and each ticket tells the truth.
pub record IsConsistent (world : World) : Type 0 where
  pub placed : AllPlaced (all_shown world.board.start) world.board.order
  pub state : all_shown world.board.state ≡ after (all_shown world.board.start) world.board.order
  pub limits : world.board.state.limits ≡ world.board.start.limits
  pub counts : Counts world.board.settled (length world.published) world.without world.with_batch world.board.taken (length world.board.order)
  pub shown : world.published ≡ takens (take (length world.published) world.board.order)
  pub sent : All (WasSent world.sent) world.board.order
  pub tickets : All (Stands (all_shown world.board.start) world.board.order) world.tickets
  pub acks : All (StandsSettled (all_shown world.board.start) world.board.order world.board.settled) world.acks
