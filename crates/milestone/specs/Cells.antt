-- What is known in memory of the two cells of a document, and what the calls leave of them.
use Rattle.std.specs.Prelude.{ℕ, ◌≡◌, ◌⊎◌, ◌*◌, Some, None, List}
use Rattle.disk.specs.Device.{SameOutside}
use Rattle.history.specs.Cell.{Cell, Pair, freed}
use Rattle.milestone.specs.CellSpelling.{Format, Two}
use Rattle.milestone.specs.OneCell.{HoldsPairIn, HoldsPair}
use Rattle.milestone.specs.Revisions.{Revisions, revisions_in}
use Rattle.milestone.specs.declared.cells.Cells.{Cells}

-- where the first cell begins, how many bytes each has, the document's number, and the revision of each cell that is open
abbrev pub place_of : Cells → ℕ
place_of cells = cells.place

abbrev pub size_of : Cells → ℕ
size_of cells = cells.size

abbrev pub number_of : Cells → ℕ
number_of cells = cells.number

abbrev pub revisions_of : Cells → Revisions
revisions_of cells = (cells.first, cells.second)

-- the cells are those of a content, which hold this pair
pub record FitsIn (format : Format) (content : List ℕ) (cells : Cells) (pair : Pair) : Type 0 where
  pub holds : HoldsPairIn format (place_of cells) (size_of cells) (number_of cells) content pair
  pub revisions : revisions_of cells ≡ revisions_in pair

-- in the second format, which is written
abbrev pub Fits : List ℕ → Cells → Pair → Type 0
Fits content cells pair = FitsIn Two content cells pair

-- one of the two cells is closed
abbrev pub HasClosed : Revisions → Type 0
HasClosed revisions = (revisions.0 ≡ None) ⊎ (revisions.1 ≡ None)

-- the pair with a cell put where one is closed: in the first cell before the second
abbrev pub with_cell : Cell → Pair → Pair
with_cell cell (None, second) = (Some cell, second)
with_cell cell (Some first, second) = (Some first, Some cell)

-- the cells are those of the same document, in their place
pub record SameCells (old new : Cells) : Type 0 where
  pub place : place_of new ≡ place_of old
  pub size : size_of new ≡ size_of old
  pub number : number_of new ≡ number_of old

-- a content whose cells hold this pair, and that has not changed outside them
pub record HoldsInCells (old : List ℕ) (cells : Cells) (pair : Pair) (content : List ℕ) : Type 0 where
  pub outside : SameOutside (place_of cells) (2 * size_of cells) old content
  pub holds : HoldsPair (place_of cells) (size_of cells) (number_of cells) content pair

-- what a crash leaves while the older one of two open cells is closed: the pair before, or the one without it
abbrev pub IsLeftByFreeing : List ℕ → Cells → Pair → List ℕ → Type 0
IsLeftByFreeing old cells pair content = HoldsInCells old cells pair content ⊎ HoldsInCells old cells (freed pair) content

-- what a crash leaves while a cell is put: the pair before, or the one with the cell
abbrev pub IsLeftByPut : List ℕ → Cells → Pair → Cell → List ℕ → Type 0
IsLeftByPut old cells pair cell content = HoldsInCells old cells pair content ⊎ HoldsInCells old cells (with_cell cell pair) content

-- what a crash leaves while a cell is put over the older one of two open ones, or where one is closed: the pair before, the one without
-- its older cell, or that with the cell
abbrev pub IsLeftByReplacing : List ℕ → Cells → Pair → Cell → List ℕ → Type 0
IsLeftByReplacing old cells pair cell content = IsLeftByFreeing old cells pair content ⊎ HoldsInCells old cells (with_cell cell (freed pair)) content

-- A call that is done: outside the cells nothing has changed, and they are those of a content that holds this pair.
pub record FitsNow (old : List ℕ) (before : Cells) (new : List ℕ) (after : Cells) (pair : Pair) : Type 0 where
  pub outside : SameOutside (place_of before) (2 * size_of before) old new
  pub same : SameCells before after
  pub fits : Fits new after pair
