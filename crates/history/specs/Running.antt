-- What a running store keeps: its parts are of one history, which its state shows.
use Rattle.std.specs.Prelude.{ℕ, ◌≡◌, ◌≤◌, ◌+◌, true, Option, Some, List, ◌++◌, length, take, slice_get}
use Rattle.revision.specs.Command.{Taken}
use Rattle.revision.specs.State.{DocumentRecord, State, newest_revision, all_continue}
use Rattle.revision.specs.Invariants.{IsState}
use Rattle.history.specs.Entries.{of_document}
use Rattle.history.specs.Cell.{Cell, record_of_cell, Pair, cells_at, lowest, OfOpen, OfBoth, CellKeeps}
use Rattle.history.specs.Shown.{Order, whole_of, base_at, PlacesShow, StateShows}

-- a cell of a document that began so and took these commands: it shows what the first `count` of them made
pub record IsCellOf (base : Option DocumentRecord) (commands : List Taken) (cell : Cell) : Type 0 where
  pub count : ℕ
  pub within : count ≤ length commands
  pub shows : PlacesShow (whole_of base (take count commands)) (Some (record_of_cell cell))

-- a cell of the document of a number
abbrev pub IsCellAt : Order → ℕ → Cell → Type 0
IsCellAt order number cell = IsCellOf (base_at order number) (of_document number order.taken) cell

-- A running store. The commands of its history began with what was retired, and go on with the entries that it holds; those of each
-- document continue one another from what it began with, which keeps the limits, and the state shows them. Each open cell is a cell of its
-- document, and what a document began with and what was retired of it is no more than the lower one of its open cells has.
pub record Runs (order : Order) (cells : List Pair) (entries : List Taken) (state : State) : Type 0 where
  pub retired : List Taken
  pub held : order.taken ≡ retired ++ entries
  pub is_state : IsState state
  pub pairs : length cells ≡ state.limits.docs
  pub start : (number : ℕ) → OfOpen (CellKeeps state.limits) (slice_get order.start number)
  pub is_order : (number : ℕ) → all_continue state.limits (base_at order number) (of_document number order.taken) ≡ true
  pub shows : StateShows order state
  pub cells_are : (number : ℕ) → OfBoth (IsCellAt order number) (cells_at cells number)
  pub covered : (number : ℕ) → newest_revision (base_at order number) + length (of_document number retired) ≤ lowest (cells_at cells number)
