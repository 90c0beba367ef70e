-- What the parts of a store stand for: its cells, by a pick, and the entries of its segments in order.
use Rattle.std.specs.Prelude.{ℕ, ◌≡◌, ◌≤◌, true, Option, Some, None, List, length, slice_get}
use Rattle.revision.specs.Command.{Taken}
use Rattle.revision.specs.State.{Limits, DocumentRecord, State, all_continue, record_after_all}
use Rattle.revision.specs.Invariants.{NamesDiffer}
use Rattle.history.specs.Entries.{of_document, above}
use Rattle.history.specs.Cell.{Cell, record_of_cell, Pair, cells_at, Pick, picked, OfOpen, CellKeeps}

-- the document that is begun with: the cell's, or none
abbrev pub started : Option Cell → Option DocumentRecord
started None = None
started (Some cell) = Some (record_of_cell cell)

-- the entries that are read behind it: those up to the cell's revision are passed over
abbrev pub unread : Option Cell → List Taken → List Taken
unread None entries = entries
unread (Some cell) entries = above cell.revision entries

-- What a cell and the entries of a document stand for: the cell keeps the limits, each entry that is read continues what those
-- before it leave, and this is what comes of them.
pub record StandsFor (limits : Limits) (cell : Option Cell) (entries : List Taken) (found : Option DocumentRecord) : Type 0 where
  pub cell_keeps : OfOpen (CellKeeps limits) cell
  pub continue : all_continue limits (started cell) (unread cell entries) ≡ true
  pub is : found ≡ record_after_all limits.keep (started cell) (unread cell entries)

-- What they all represent: a state with these limits, with the document that each number's parts represent, and names that differ. A
-- number past the last document has neither cell nor entry, so there is no hole.
pub record StandFor (limits : Limits) (cells : List Pair) (entries : List Taken) (pick : Pick) (state : State) : Type 0 where
  pub same_limits : state.limits ≡ limits
  pub count : length state.documents ≤ limits.docs
  pub each : (number : ℕ) → StandsFor limits (picked pick (cells_at cells number)) (of_document number entries) (slice_get state.documents number)
  pub names : NamesDiffer state.documents
