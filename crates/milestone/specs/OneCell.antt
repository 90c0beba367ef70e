-- What a cell holds by its bytes, and what the two cells of a document hold.
use Rattle.std.specs.Prelude.{ℕ, ◌≡◌, ◌≢◌, ◌+◌, Option, Some, None, List, ◌++◌, take, drop, slice_index}
use Rattle.journal.specs.Area.{open_gate, open_record}
use Rattle.history.specs.Cell.{Cell, Pair}
use Rattle.milestone.specs.CellSpelling.{Format, Two, cell_body_in, IsCellIn}

-- the bytes of a cell of so many bytes, which begins at this place
abbrev pub bytes_at : ℕ → ℕ → List ℕ → List ℕ
bytes_at place size content = take size (drop place content)

-- The bytes of a cell hold a document: its gate is open, and behind the length of the body in four bytes stands the body.
pub record HoldsOpenCellIn (format : Format) (number : ℕ) (bytes : List ℕ) (cell : Cell) : Type 0 where
  pub is : IsCellIn format number cell
  pub rest : List ℕ
  pub split : bytes ≡ open_record (cell_body_in format number cell) ++ rest

-- what a cell of the document of this number holds: nothing where its gate is closed
abbrev pub HoldsCellIn : Format → ℕ → ℕ → ℕ → List ℕ → Option Cell → Type 0
HoldsCellIn format place size number content None = slice_index (bytes_at place size content) 0 ≢ open_gate
HoldsCellIn format place size number content (Some cell) = HoldsOpenCellIn format number (bytes_at place size content) cell

-- what the two cells of a document hold, which lie one behind the other
pub record HoldsPairIn (format : Format) (place size number : ℕ) (content : List ℕ) (pair : Pair) : Type 0 where
  pub first : HoldsCellIn format place size number content pair.0
  pub second : HoldsCellIn format (place + size) size number content pair.1

-- in the second format, which is written
abbrev pub HoldsOpenCell : ℕ → List ℕ → Cell → Type 0
HoldsOpenCell number bytes cell = HoldsOpenCellIn Two number bytes cell

abbrev pub HoldsCell : ℕ → ℕ → ℕ → List ℕ → Option Cell → Type 0
HoldsCell place size number content cell = HoldsCellIn Two place size number content cell

abbrev pub HoldsPair : ℕ → ℕ → ℕ → List ℕ → Pair → Type 0
HoldsPair place size number content pair = HoldsPairIn Two place size number content pair
