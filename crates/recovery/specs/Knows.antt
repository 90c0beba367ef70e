-- What a store knows of the content that it was opened on, whoever wrote that.
use Rattle.std.specs.Prelude.{◌≡◌, ℕ, Option, List}
use Rattle.disk.specs.declared.device.Disk.{Ghosts}
use Rattle.revision.specs.Command.{Taken}
use Rattle.history.specs.declared.pick.Pick.{Pick}
use Rattle.history.specs.Cell.{Pair}
use Rattle.history.specs.Found.{StandFor}
use Rattle.segments.specs.Slot.{Segment}
use Rattle.segments.specs.Ring.{Fits, at_of, size_of}
use Rattle.recovery.specs.declared.store.Store.{Store}
use Rattle.recovery.specs.Shape.{slots_place}
use Rattle.recovery.specs.Cells.{AreCellsOf, FitEach}
use Rattle.recovery.specs.Marked.{AreMarked}
use Rattle.recovery.specs.Found.{limits_of, commands_of, HoldsParts}
use Rattle.recovery.specs.Open.{known_cells, known_marks}

module _ {D : Type 0} {disk : Ghosts D} where
  -- A store knows a content: its shape, the ring of its slots, its cells and the marks of its segments are those of the content's parts,
  -- which stand by this pick for the state that it holds. That the parts are of one history is more (`IsOpen`).
  pub record Knows (content : List ℕ) (pick : Pick) (store : Store D disk) : Type 0 where
    pub cells : List Pair
    pub table : List (Option Segment)
    pub batches : List (List Taken)
    pub holds : HoldsParts content store.shape cells table batches
    pub fits : Fits content store.ring table
    pub ring_at : at_of store.ring ≡ slots_place store.shape
    pub ring_size : size_of store.ring ≡ store.shape.slot
    pub cells_are : AreCellsOf store.shape (known_cells store)
    pub cells_fit : FitEach content (known_cells store) cells
    pub marked : AreMarked table (known_marks store)
    pub stand : StandFor (limits_of store.shape) cells (commands_of batches) pick store.state
