-- How a cell spells a document at a revision with its sources, and which documents have a spelling.
use Rattle.std.specs.Prelude.{ℕ, ◌≡◌, ◌<◌, ◌^◌, ◌==◌, ◌&&◌, Bool, true, if◌then◌else◌, List, [], ◌∷◌, ◌++◌, length}
use Rattle.std.specs.List.{flat_map}
use Rattle.std.specs.Int.{w32, w64}
use Rattle.delta.specs.Element.{Element}
use Rattle.delta.specs.Operation.{Operation}
use Rattle.delta.specs.Gaps.{End}
use Rattle.delta.specs.Normal.{nf}
use Rattle.revision.specs.Sources.{count_of}
use Rattle.revision.specs.Window.{Window, last_revision}
use Rattle.revision.specs.Spellable.{IsSpellable}
use Rattle.history.specs.Cell.{Cell}
use Rattle.milestone.specs.Milestone.{IsMilestone}
pub use Rattle.milestone.specs.declared.format.Format.{Format}
pub use Rattle.milestone.specs.declared.format.Format.TheVariants.{One, Two}
use Rattle.journal.specs.Spelling as journal
use Rattle.journal.specs.DeltaSpelling as deltas

-- the delta that makes a document of the empty one, by inserts alone
abbrev pub inserts_of : List Element → List Operation
inserts_of units = nf (End units)

-- what stands behind a cell's revision: in the second format a byte, by which the document is live or deleted
abbrev pub mark_byte : Bool → ℕ
mark_byte live = if live then 1 else 0

abbrev pub mark : Format → Bool → List ℕ
mark One live = []
mark Two live = mark_byte live ∷ []

-- the marks that a format spells: in the first one each document is live
abbrev pub spells_mark : Format → Bool → Bool
spells_mark One live = live
spells_mark Two live = true

-- A window: its last number, and in the first format the revision that this made. In the second format the count of its revisions in one
-- byte, and these in order.
unfoldable pub window : Format → Window → List ℕ
window One w = journal.number w64 w.number ++ journal.number w64 (last_revision w)
window Two w = journal.number w64 w.number ++ (length w.revisions ∷ flat_map (journal.number w64) w.revisions)

-- a source: its name, and its window
unfoldable pub source : Format → List ℕ × Window → List ℕ
source format s = journal.text16 s.0 ++ window format s.1

-- the sources in order, behind their count
unfoldable pub sources : Format → List (List ℕ × Window) → List ℕ
sources format all = journal.number w32 (length all) ++ flat_map (source format) all

-- the body of a cell of the document of this number, counted from 0 in order of creation
unfoldable pub cell_body_in : Format → ℕ → Cell → List ℕ
cell_body_in format number cell =
    journal.number w32 number ++ journal.text16 cell.name ++ journal.number w64 cell.revision ++ mark format cell.content.live
    ++ deltas.delta (inserts_of cell.content.units) ++ sources format cell.sources.entries

-- the windows that a format spells: the first one those of one number
abbrev pub spells : Format → Window → Bool
spells One w = length w.revisions == 1
spells Two w = true

abbrev pub have_one : List (List ℕ × Window) → Bool
have_one [] = true
have_one (first ∷ others) = spells One first.1 && have_one others

abbrev pub spells_all : Format → List (List ℕ × Window) → Bool
spells_all One all = have_one all
spells_all Two all = true

-- What has a spelling as a cell of the document of this number: a milestone whose number, sources and content fit their fields, and whose
-- mark and windows the format spells.
pub record IsCellIn (format : Format) (number : ℕ) (cell : Cell) : Type 0 where
  pub document : number < 2 ^ 32
  pub milestone : IsMilestone cell
  pub content : IsSpellable (inserts_of cell.content.units)
  pub count : count_of cell.sources < 2 ^ 32
  pub mark : spells_mark format cell.content.live ≡ true
  pub windows : spells_all format cell.sources.entries ≡ true

-- in the second format, which is written
abbrev pub cell_body : ℕ → Cell → List ℕ
cell_body number cell = cell_body_in Two number cell

abbrev pub IsCell : ℕ → Cell → Type 0
IsCell number cell = IsCellIn Two number cell
