-- What formatting leaves of a device.
use Rattle.std.specs.Prelude.{◌≡◌, ◌⊎◌, ℕ, ◌*◌, ◌<◌, ◌≤◌, true, Option, Some, None, List, [], length, replicate, take, drop, slice_get, All}
use Rattle.disk.specs.Device.{History, IsSync, IsAtMostOneStep}
use Rattle.disk.specs.Crash.{Leaves}
use Rattle.revision.specs.Invariants.{IsState}
use Rattle.history.specs.Cell.{Cell, no_cells, CellKeeps}
use Rattle.history.specs.Law.{first_cells, begun_with}
use Rattle.milestone.specs.CellSpelling.{IsCell}
use Rattle.milestone.specs.OneCell.{HoldsPair}
use Rattle.segments.specs.Slot.{Segment}
use Rattle.segments.specs.Table.{slot_place}
use Rattle.recovery.specs.declared.shape.Shape.{Shape}
use Rattle.recovery.specs.Shape.{is_in_range, layout_length, cell_place, cells_place, slots_place, superblock}
use Rattle.recovery.specs.Layout.{IsClosed, IsLaidOut}
use Rattle.recovery.specs.Found.{FoundAs, limits_of, empty_state}

-- a shape in range, and a device of so many bytes has room for its layout
pub record Fits (shape : Shape) (size : ℕ) : Type 0 where
  pub in_range : is_in_range shape ≡ true
  pub room : layout_length shape ≤ size

-- the superblock's gate is closed
abbrev pub IsUnformatted : List ℕ → Type 0
IsUnformatted content = IsClosed content 0

-- the table of a ring of this shape in which no slot is open
abbrev pub empty_table : Shape → List (Option Segment)
empty_table shape = replicate shape.slots None

-- a store of this shape, in which no slot is open, and which represents no documents
pub record IsEmptyStore (shape : Shape) (content : List ℕ) : Type 0 where
  pub laid_out : IsLaidOut content shape (replicate shape.docs no_cells) (empty_table shape)
  pub found : FoundAs content (empty_state shape)

-- what a crash may leave while a device is being formatted
abbrev pub IsUnformattedOrEmpty : Shape → List ℕ → Type 0
IsUnformattedOrEmpty shape content = IsUnformatted content ⊎ IsEmptyStore shape content

-- What a store of this shape may begin with: documents that keep its limits, and each has a spelling as the cell of its number.
pub record MayBegin (shape : Shape) (start : List Cell) : Type 0 where
  pub state : IsState (begun_with (limits_of shape) start)
  pub keep : All (CellKeeps (limits_of shape)) start
  pub spelled : (number : ℕ) (cell : Cell) → slice_get start number ≡ Some cell → IsCell number cell

-- a store of this shape that begins with these documents, each in its first cell, and in which no slot is open
pub record IsBegunStore (shape : Shape) (start : List Cell) (content : List ℕ) : Type 0 where
  pub laid_out : IsLaidOut content shape (first_cells start shape.docs) (empty_table shape)
  pub found : FoundAs content (begun_with (limits_of shape) start)

-- what a crash may leave while a device is being formatted with documents
abbrev pub IsUnformattedOrBegun : Shape → List Cell → List ℕ → Type 0
IsUnformattedOrBegun shape start content = IsUnformatted content ⊎ IsBegunStore shape start content

-- such a store but for the superblock's gate, which may have any value
pub record IsPreparedWith (shape : Shape) (start : List Cell) (content : List ℕ) : Type 0 where
  pub named : take 32 (drop 1 content) ≡ superblock shape
  pub long : layout_length shape ≤ length content
  pub cells : (number : ℕ) → number < shape.docs → HoldsPair (cells_place shape number) shape.cell number content (slice_get start number, None)
  pub slots : (s : ℕ) → s < shape.slots → IsClosed content (slot_place (slots_place shape) shape.slot s)

-- an empty store but for the superblock's gate, which may have any value
pub record IsPrepared (shape : Shape) (content : List ℕ) : Type 0 where
  pub named : take 32 (drop 1 content) ≡ superblock shape
  pub long : layout_length shape ≤ length content
  pub cells : (k : ℕ) → k < 2 * shape.docs → IsClosed content (cell_place shape k)
  pub slots : (s : ℕ) → s < shape.slots → IsClosed content (slot_place (slots_place shape) shape.slot s)

-- nothing but a sync was done, good or not, or not even that
pub record IsOnlySynced (old new : History) : Type 0 where
  pub seen : new.now.seen ≡ old.now.seen
  pub time : IsAtMostOneStep IsSync old new

-- A run that begins with a sync: nothing follows it, or it left no range unsynced, and a crash at any moment from then
-- on leaves a content that has P.
pub record LeavesFromSync (P : List ℕ → Type 0) (old new : History) : Type 0 where
  pub synced : History
  pub first : IsOnlySynced old synced
  pub later : (new ≡ synced) ⊎ ((synced.now.unsynced ≡ []) × Leaves P synced new)
