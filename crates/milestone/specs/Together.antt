-- Milestones of many documents put as one step, as the cells of one of them see it: the older one of two open cells is closed, the body is
-- written behind the closed gate, and the gate is opened. After each of the three one sync is made for all documents, so that the device may have
-- unsynced ranges of other cells while one of these steps is made.
use Rattle.std.specs.Prelude.{ℕ, ◌≡◌, ◌⊎◌, ◌+◌, ◌*◌, ◌≤◌, Option, Some, None, List, length, take, drop}
use Rattle.disk.specs.Apart.{IsApart, CoversMoreWithin}
use Rattle.disk.specs.Calls.{HasOnlyWritten}
use Rattle.disk.specs.Counted.{Costs}
use Rattle.disk.specs.Device.{State, MayLeave, SameOutside}
use Rattle.disk.specs.declared.device.Disk.{Ghosts}
use Rattle.journal.specs.Area.{frame}
use Rattle.history.specs.Cell.{Cell, Pair, freed}
use Rattle.milestone.specs.CellSpelling.{cell_body, IsCell}
use Rattle.milestone.specs.Revisions.{Revisions}
use Rattle.milestone.specs.Cells.{place_of, size_of, number_of, revisions_of, with_cell, Fits, HoldsInCells}
use Rattle.milestone.specs.declared.cells.Cells.{Cells}

-- What a crash leaves of a step: outside the cells what one could have left before it, and in them a pair that it may be.
pub record IsLeftByStep (state : State) (cells : Cells) (May : Pair → Type 0) (content : List ℕ) : Type 0 where
  pub before : List ℕ
  pub left : MayLeave state before
  pub pair : Pair
  pub may : May pair
  pub held : HoldsInCells before cells pair content

-- the pair, or the one without its older cell
abbrev pub IsFreedOr : Pair → Pair → Type 0
IsFreedOr pair left = (left ≡ pair) ⊎ (left ≡ freed pair)

-- the pair, or the one with a cell put where one is closed
abbrev pub IsPutOr : Cell → Pair → Pair → Type 0
IsPutOr cell pair left = (left ≡ pair) ⊎ (left ≡ with_cell cell pair)

-- where the gate of the closed cell stands, of two closed ones that of the first
abbrev pub closed_gate_of : ℕ → ℕ → Revisions → Option ℕ
closed_gate_of place size (None, second) = Some place
closed_gate_of place size (Some first, None) = Some (place + size)
closed_gate_of place size (Some first, Some second) = None

abbrev pub closed_gate : Cells → Option ℕ
closed_gate cells = closed_gate_of (place_of cells) (size_of cells) (revisions_of cells)

-- the cells have room for what has a spelling: the gate and the length of the body take five bytes
pub record HasRoom (cells : Cells) (cell : Cell) : Type 0 where
  pub is : IsCell (number_of cells) cell
  pub fits : 5 + length (cell_body (number_of cells) cell) ≤ size_of cells

-- what stands behind the gate of a cell that is put
abbrev pub framed_body : Cells → Cell → List ℕ
framed_body cells cell = frame (cell_body (number_of cells) cell)

-- bytes behind a gate
abbrev pub IsBehind : ℕ → List ℕ → List ℕ → Type 0
IsBehind gate bytes content = take (length bytes) (drop (gate + 1) content) ≡ bytes

-- the spelling of a cell stands behind the closed gate
pub record IsReady (cells : Cells) (cell : Cell) (content : List ℕ) : Type 0 where
  pub room : HasRoom cells cell
  pub behind : (gate : ℕ) → closed_gate cells ≡ Some gate → IsBehind gate (framed_body cells cell) content

module _ {D : Type 0} (disk : Ghosts D) where
  -- the cells are those of a device that has no unsynced range in them, and hold this pair there
  pub record StandApart (cells : Cells) (pair : Pair) (now : D) : Type 0 where
    pub apart : IsApart (place_of cells) (2 * size_of cells) (disk.unsynced now)
    pub fits : Fits (disk.seen now) cells pair

  -- Writes within a range, and no sync: so many at most.
  pub record WriteWithin (at count most : ℕ) (old new : D) : Type 0 where
    pub outside : SameOutside at count (disk.seen old) (disk.seen new)
    pub covered : CoversMoreWithin at count (disk.unsynced old) (disk.unsynced new)
    pub costs : Costs disk most 0 old new
    pub only_written : HasOnlyWritten disk old new

  -- within the range of two cells
  abbrev pub WritesWithin : Cells → ℕ → D → D → Type 0
  WritesWithin cells most old new = WriteWithin (place_of cells) (2 * size_of cells) most old new

-- What stands behind a closed gate is known by the bytes of the cells alone.
abbrev pub ReadyWithin : Type 0
ReadyWithin =
    (cells : Cells) (cell : Cell) (a b : List ℕ) → take (2 * size_of cells) (drop (place_of cells) b) ≡ take (2 * size_of cells) (drop (place_of cells) a)
    → IsReady cells cell a → IsReady cells cell b
