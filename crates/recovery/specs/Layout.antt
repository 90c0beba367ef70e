-- The layout of a device: which shape it has, and what its cells and its slots hold.
use Rattle.std.specs.Prelude.{◌≡◌, ◌≢◌, ℕ, ◌<◌, ◌≤◌, true, Option, List, length, take, drop, slice_index}
use Rattle.journal.specs.Area.{open_gate}
use Rattle.history.specs.Cell.{Pair, cells_at}
use Rattle.milestone.specs.declared.format.Format.{Format}
use Rattle.milestone.specs.declared.format.Format.TheVariants.{One, Two}
use Rattle.milestone.specs.OneCell.{HoldsPairIn}
use Rattle.segments.specs.Slot.{Segment}
use Rattle.segments.specs.Table.{HoldsTable}
use Rattle.recovery.specs.declared.shape.Shape.{Shape}
use Rattle.recovery.specs.Shape.{is_in_range, cells_place, slots_place, layout_length, letters, superblock_in}

-- a gate that is not open
abbrev pub IsClosed : List ℕ → ℕ → Type 0
IsClosed content place = slice_index content place ≢ open_gate

-- the superblock's gate is open; a device of less than 64 bytes has none
pub record IsFormatted (content : List ℕ) : Type 0 where
  pub long : 64 ≤ length content
  pub gate : slice_index content 0 ≡ open_gate

-- the superblock's gate is open, and behind it stand the letters of this format
pub record IsOfFormat (format : Format) (content : List ℕ) : Type 0 where
  pub formatted : IsFormatted content
  pub spelled : take 8 (drop 1 content) ≡ letters format

-- a device of the first format, which isn't opened
abbrev pub IsOldFormat : List ℕ → Type 0
IsOldFormat content = IsOfFormat One content

-- The superblock's gate is open, it names this shape in range, and the device has at least the layout's length.
pub record NamesIn (format : Format) (content : List ℕ) (shape : Shape) : Type 0 where
  pub formatted : IsFormatted content
  pub named : take 32 (drop 1 content) ≡ superblock_in format shape
  pub in_range : is_in_range shape ≡ true
  pub long : layout_length shape ≤ length content

-- the two cells of each document number hold these pairs
pub record HoldsCellsIn (format : Format) (content : List ℕ) (shape : Shape) (cells : List Pair) : Type 0 where
  pub count : length cells ≡ shape.docs
  pub each : (number : ℕ) → number < shape.docs → HoldsPairIn format (cells_place shape number) shape.cell number content (cells_at cells number)

-- the slots of a store of this shape hold a table
pub record HoldsSlots (content : List ℕ) (shape : Shape) (table : List (Option Segment)) : Type 0 where
  pub count : length table ≡ shape.slots
  pub holds : HoldsTable (slots_place shape) shape.slot content table

-- A device is laid out in a shape: its superblock names it, and its cells and its slots hold these.
pub record IsLaidOutIn (format : Format) (content : List ℕ) (shape : Shape) (cells : List Pair) (table : List (Option Segment)) : Type 0 where
  pub names : NamesIn format content shape
  pub in_cells : HoldsCellsIn format content shape cells
  pub in_slots : HoldsSlots content shape table

-- in the second format, which is written
abbrev pub Names : List ℕ → Shape → Type 0
Names content shape = NamesIn Two content shape

abbrev pub HoldsCells : List ℕ → Shape → List Pair → Type 0
HoldsCells content shape cells = HoldsCellsIn Two content shape cells

abbrev pub IsLaidOut : List ℕ → Shape → List Pair → List (Option Segment) → Type 0
IsLaidOut content shape cells table = IsLaidOutIn Two content shape cells table
