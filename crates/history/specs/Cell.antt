-- What a cell of a device holds, and which one of the two cells of a document is read.
use Rattle.std.specs.Prelude.{ℕ, zero, suc, ◌≡◌, ◌≤◌, ◌⊎◌, min, nat_lt, if◌then◌else◌, true, Option, Some, None, unwrap_or, List, [], ◌∷◌, slice_get}
use Rattle.revision.specs.Past.{Content, is_content, content_at, sources_at}
use Rattle.revision.specs.Sources.{Sources, count_of}
pub use Rattle.history.specs.declared.pick.Pick.{Pick}
pub use Rattle.history.specs.declared.pick.Pick.TheVariants.{Newer, Older}
use Rattle.revision.specs.State.{Limits, DocumentRecord, last_of_all, weight_of, is_mark_at, are_sources, record_at}

-- a document at a revision, with its sources there
pub record Cell : Type 0 where
  pub name : List ℕ
  pub revision : ℕ
  pub content : Content
  pub sources : Sources

-- the document whose past begins there
abbrev pub record_of_cell : Cell → DocumentRecord
record_of_cell cell = record_at cell.name cell.content cell.revision cell.sources

-- the cell of a document at a revision that it holds
abbrev pub cell_of : DocumentRecord → ℕ → Cell
cell_of found revision =
    record { name = found.name; revision = revision; content = content_at found.past revision; sources = sources_at found.past revision }

-- a document's two cells, None where one isn't open
abbrev pub Pair : Type 0
Pair = Option Cell × Option Cell

abbrev pub no_cells : Pair
no_cells = (None, None)

-- the two cells of the document of a number, by the pairs in order of documents
abbrev pub cells_at : List Pair → ℕ → Pair
cells_at cells number = unwrap_or (slice_get cells number) no_cells

-- the pairs with the one of a document set, which is there
abbrev pub with_pair : ℕ → Pair → List Pair → List Pair
with_pair number pair [] = []
with_pair zero pair (first ∷ others) = pair ∷ others
with_pair (suc number) pair (first ∷ others) = first ∷ with_pair number pair others

-- the one of two open cells that is read
abbrev pub of_two : Pick → Cell → Cell → Cell
of_two Newer first second = if nat_lt second.revision first.revision then first else second
of_two Older first second = if nat_lt second.revision first.revision then second else first

-- the cell that is read: the open one where one alone is open
abbrev pub picked : Pick → Pair → Option Cell
picked pick (None, second) = second
picked pick (Some first, None) = Some first
picked pick (Some first, Some second) = Some (of_two pick first second)

-- the lowest revision of the open ones, 0 where none is open
abbrev pub lowest : Pair → ℕ
lowest (None, None) = 0
lowest (None, Some second) = second.revision
lowest (Some first, None) = first.revision
lowest (Some first, Some second) = min first.revision second.revision

-- the pair with its older cell closed where both are open
abbrev pub freed : Pair → Pair
freed (None, second) = (None, second)
freed (Some first, None) = (Some first, None)
freed (Some first, Some second) = if nat_lt second.revision first.revision then (Some first, None) else (None, Some second)

-- a cell is put where one is closed, and isn't below the other one if that is open
abbrev pub IsPut : Cell → Pair → Pair → Type 0
IsPut cell before after =
    lowest before ≤ cell.revision
    × (((before.0 ≡ None) × (after ≡ (Some cell, before.1))) ⊎ ((before.1 ≡ None) × (after ≡ (before.0, Some cell))))

-- what holds of each open cell of two
abbrev pub OfOpen : (Cell → Type 0) → Option Cell → Type 0
OfOpen P None = Unit {0}
OfOpen P (Some cell) = P cell

abbrev pub OfBoth : (Cell → Type 0) → Pair → Type 0
OfBoth P pair = OfOpen P pair.0 × OfOpen P pair.1

-- a cell keeps the limits, and has a content, a revision and sources that can be
pub record CellKeeps (limits : Limits) (cell : Cell) : Type 0 where
  pub first : 1 ≤ cell.revision
  pub last : cell.revision ≤ last_of_all
  pub count : count_of cell.sources ≤ limits.sources
  pub sources : are_sources cell.revision cell.sources.entries ≡ true
  pub content : is_content cell.content ≡ true
  pub mark : is_mark_at cell.content.live cell.revision ≡ true
  pub weight : weight_of limits cell.content.units cell.sources ≤ limits.weight
