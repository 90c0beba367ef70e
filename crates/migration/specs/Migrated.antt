-- The documents of a store of the first format, as a store of the second one begins with them.
use Rattle.std.specs.Prelude.{◌≡◌, ◌⊎◌, ℕ, List, Some, length, map, slice_get}
use Rattle.revision.specs.Sources.{cut}
use Rattle.revision.specs.Past.{newest, content_at, sources_at}
use Rattle.revision.specs.State.{DocumentRecord, State}
use Rattle.history.specs.Cell.{Cell}
use Rattle.history.specs.Law.{begun_with}
use Rattle.milestone.specs.CellSpelling.{IsCell}
use Rattle.recovery.specs.declared.shape.Shape.{Shape}
use Rattle.recovery.specs.Layout.{Names}
use Rattle.recovery.specs.Found.{FoundAs, limits_of}
use Rattle.recovery.specs.Formatting.{IsUnformatted}

-- a document at its newest revision, with the last number of each of its sources
pub record IsCutTo (document : DocumentRecord) (cell : Cell) : Type 0 where
  pub name : cell.name ≡ document.name
  pub revision : cell.revision ≡ newest document.past
  pub content : cell.content ≡ content_at document.past (newest document.past)
  pub sources : cell.sources.entries ≡ map cut (sources_at document.past (newest document.past)).entries

-- those of a state, in order of their numbers
pub record AreCut (state : State) (start : List Cell) : Type 0 where
  pub count : length start ≡ length state.documents
  pub each : (number : ℕ) (document : DocumentRecord) (cell : Cell) → slice_get state.documents number ≡ Some document → slice_get start number ≡ Some cell
      → IsCutTo document cell

-- each has a spelling as the cell of its number
abbrev pub AreSpelled : List Cell → Type 0
AreSpelled start = (number : ℕ) (cell : Cell) → slice_get start number ≡ Some cell → IsCell number cell

-- A content names this shape, is found as the store of it which began with the documents of a state, cut, and can be opened.
pub record IsMigrated (shape : Shape) (state : State) (content : List ℕ) : Type 0 where
  pub names : Names content shape
  pub start : List Cell
  pub cut : AreCut state start
  pub found : FoundAs content (begun_with (limits_of shape) start)

-- what a crash may leave of the new device
abbrev pub IsUnformattedOrMigrated : Shape → State → List ℕ → Type 0
IsUnformattedOrMigrated shape state content = IsUnformatted content ⊎ IsMigrated shape state content
