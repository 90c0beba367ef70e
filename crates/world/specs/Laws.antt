-- What continues from one life of a server to the next: each law is promised by a function of `laws`.
use Rattle.std.specs.Prelude.{◌≡◌, ℕ, ◌≤◌, List, ◌++◌, length, take}
use Rattle.revision.specs.Command.{Taken}
use Rattle.revision.specs.State.{State, fold}
use Rattle.world.specs.Progress.{Ticket}
use Rattle.world.specs.Event.{Event}
use Rattle.world.specs.World.{Entry, World, begun}
use Rattle.world.specs.Step.{run}
use Rattle.world.specs.Shown.{Shown, all_shown}
use Rattle.world.specs.steps.Showing.{fold_shown}
use Rattle.world.specs.steps.Placing.{AllPlaced}
use Rattle.world.specs.steps.Holding.{Stands, IsConsistent}

-- what holds of worlds holds of one that begins
abbrev pub BegunHolds : Type 0
BegunHolds = (start : State) → IsConsistent (begun start)

-- and after all events
abbrev pub RunHolds : Type 0
RunHolds = (world : World) (events : List Event) → IsConsistent world → IsConsistent (run world events)

-- what follows for a world where it holds
abbrev pub HoldsSo : (World → Type 0) → Type 0
HoldsSo P = (world : World) → IsConsistent world → P world

-- what a state shows after commands is what it showed before, with them
abbrev pub ShownFold : Type 0
ShownFold = (state : State) (commands : List Taken) → all_shown (fold state commands) ≡ fold_shown (all_shown state) commands

-- first these, and then others
abbrev pub FoldJoined : Type 0
FoldJoined = (documents : List Shown) (first others : List Taken) → fold_shown documents (first ++ others) ≡ fold_shown (fold_shown documents first) others

-- the first commands of an order have their places
abbrev pub FirstPlaced : Type 0
FirstPlaced = (n : ℕ) (documents : List Shown) (entries : List Entry) → AllPlaced documents entries → AllPlaced documents (take n entries)

-- a ticket of no more than the first commands stands among them
abbrev pub FirstStand : Type 0
FirstStand =
    (documents : List Shown) (entries : List Entry) (kept : ℕ) (ticket : Ticket) → kept ≤ length entries → ticket.length ≤ kept
    → Stands documents entries ticket → Stands documents (take kept entries) ticket
