-- What holds of what the parts of a store stand for.
use Rattle.std.specs.Prelude.{ℕ, ◌≡◌, ◌≤◌, ◌<◌, ◌+◌, ◌-◌, ◌↔◌, true, Some, None, List, [], ◌++◌, length, map, replicate, slice_get, All}
use Rattle.revision.specs.Command.{Taken}
use Rattle.revision.specs.State.{Limits, DocumentRecord, State, revision_of, newest_revision, all_continue, record_after_all, all_grow, fold}
use Rattle.revision.specs.Agree.{Agree}
use Rattle.revision.specs.Invariants.{IsLimits, IsState}
use Rattle.history.specs.Entries.{of_document, greatest}
use Rattle.history.specs.Cell.{Cell, CellKeeps, record_of_cell, cell_of, Pair, no_cells, cells_at, with_pair, lowest, freed, IsPut, Pick, OfBoth}
use Rattle.history.specs.Shown.{Order, no_order, with_commands, base_at, StateShows}
use Rattle.history.specs.Found.{StandFor}
use Rattle.history.specs.Running.{IsCellAt, Runs}

-- The parts stand for one state at most.
abbrev pub AtMostOne : Type 0
AtMostOne = (limits : Limits) (cells : List Pair) (entries : List Taken) (pick : Pick) (s t : State)
    → StandFor limits cells entries pick s → StandFor limits cells entries pick t → s ≡ t

-- What they stand for is a state as all that grew from the empty one are.
abbrev pub StandIsState : Type 0
StandIsState = (limits : Limits) (cells : List Pair) (entries : List Taken) (pick : Pick) (state : State) → IsLimits limits
    → StandFor limits cells entries pick state → IsState state

-- States that show one history agree.
abbrev pub ShowingAgree : Type 0
ShowingAgree = (order : Order) (s t : State) → s.limits ≡ t.limits → StateShows order s → StateShows order t → Agree s t

-- Commands that a state grows by continue each document, and what the state then has of it comes of the document's commands alone.
abbrev pub GrowsByDocuments : Type 0
GrowsByDocuments = (state : State) (commands : List Taken) → all_grow state commands ≡ true → (number : ℕ)
    → (all_continue state.limits (slice_get state.documents number) (of_document number commands) ≡ true)
    × (slice_get (fold state commands).documents number
    ≡ record_after_all state.limits.keep (slice_get state.documents number) (of_document number commands))

-- By either pick the parts of a running store stand for a state that agrees with the one in memory.
abbrev pub Recovers : Type 0
Recovers = (order : Order) (cells : List Pair) (entries : List Taken) (state : State) (pick : Pick) → Runs order cells entries state
    → (found : State) × StandFor state.limits cells entries pick found × Agree found state

-- Whichever state they stand for runs on over the same history.
abbrev pub Reopens : Type 0
Reopens = (order : Order) (cells : List Pair) (entries : List Taken) (state : State) (pick : Pick) (found : State)
    → Runs order cells entries state → StandFor state.limits cells entries pick found → Runs order cells entries found

-- A store without commands runs with its empty state.
abbrev pub Begins : Type 0
Begins = (limits : Limits) → IsLimits limits → Runs no_order (replicate limits.docs no_cells) [] (record { limits = limits; documents = [] })

-- documents each in its first cell, and no cell open of others
abbrev pub first_cells : List Cell → ℕ → List Pair
first_cells start docs = map (λ (cell : Cell). (Some cell, None)) start ++ replicate (docs - length start) no_cells

-- the state that has those documents
abbrev pub begun_with : Limits → List Cell → State
begun_with limits start = record { limits = limits; documents = map record_of_cell start }

-- A store that begins with documents, each in its first cell, runs with them.
abbrev pub BeginsWith : Type 0
BeginsWith = (limits : Limits) (start : List Cell) → IsState (begun_with limits start) → All (CellKeeps limits) start
    → Runs (record { start = start; taken = [] }) (first_cells start limits.docs) [] (begun_with limits start)

-- The two cells of a document may be replaced by other cells of it, where the lower one isn't below what the lower one was.
abbrev pub ChangesCells : Type 0
ChangesCells = (order : Order) (cells : List Pair) (entries : List Taken) (state : State) (number : ℕ) (pair : Pair) → Runs order cells entries state
    → number < length cells → OfBoth (IsCellAt order number) pair → lowest (cells_at cells number) ≤ lowest pair
    → Runs order (with_pair number pair cells) entries state

-- The older one of two open cells is closed.
abbrev pub Frees : Type 0
Frees = (order : Order) (cells : List Pair) (entries : List Taken) (state : State) (number : ℕ) → Runs order cells entries state
    → number < length cells → Runs order (with_pair number (freed (cells_at cells number)) cells) entries state

-- A cell of the document is put where one is closed.
abbrev pub Puts : Type 0
Puts = (order : Order) (cells : List Pair) (entries : List Taken) (state : State) (number : ℕ) (cell : Cell) (pair : Pair)
    → Runs order cells entries state → number < length cells → IsCellAt order number cell → IsPut cell (cells_at cells number) pair
    → Runs order (with_pair number pair cells) entries state

-- A batch that the state grows by goes to the history and to the entries.
abbrev pub Commits : Type 0
Commits = (order : Order) (cells : List Pair) (entries : List Taken) (state : State) (batch : List Taken) → Runs order cells entries state
    → all_grow state batch ≡ true → Runs (with_commands order batch) cells (entries ++ batch) (fold state batch)

-- An entry is covered where the lower open cell of its document has its revision.
abbrev pub IsCovered : List Pair → Taken → Type 0
IsCovered cells taken = taken.revision ≤ lowest (cells_at cells taken.document)

-- Each of the entries is covered exactly where the greatest revision of each document among them is.
abbrev pub CoveredByGreatest : Type 0
CoveredByGreatest = (cells : List Pair) (entries : List Taken)
    → All (IsCovered cells) entries ↔ ((number : ℕ) → greatest number entries ≤ lowest (cells_at cells number))

-- The entries of the oldest segment go where each of them is covered.
abbrev pub Retires : Type 0
Retires = (order : Order) (cells : List Pair) (oldest others : List Taken) (state : State) → Runs order cells (oldest ++ others) state
    → All (IsCovered cells) oldest → Runs order cells others state

-- What a document has at a revision that it holds is a cell of it, and a cell of it stays one as the history continues.
abbrev pub HeldIsCell : Type 0
HeldIsCell = (order : Order) (cells : List Pair) (entries : List Taken) (state : State) (number : ℕ) (found : DocumentRecord) (revision : ℕ)
    → Runs order cells entries state
    → slice_get state.documents number ≡ Some found → found.past.floor ≤ revision → 1 ≤ revision → revision ≤ revision_of found
    → IsCellAt order number (cell_of found revision)

abbrev pub CellsStay : Type 0
CellsStay = (order : Order) (batch : List Taken) (number : ℕ) (cell : Cell) → IsCellAt order number cell
    → IsCellAt (with_commands order batch) number cell

-- A document has reached the revision that it began with and one more for each of its commands.
abbrev pub DocumentsReach : Type 0
DocumentsReach = (order : Order) (cells : List Pair) (entries : List Taken) (state : State) (number : ℕ) → Runs order cells entries state
    → newest_revision (base_at order number) + length (of_document number order.taken) ≡ newest_revision (slice_get state.documents number)

-- A cell of it reaches no further.
abbrev pub CellsReach : Type 0
CellsReach = (order : Order) (cells : List Pair) (entries : List Taken) (state : State) (number : ℕ) (cell : Cell) → Runs order cells entries state
    → IsCellAt order number cell → cell.revision ≤ newest_revision (slice_get state.documents number)

-- It has one cell at each revision.
abbrev pub OneCellAt : Type 0
OneCellAt = (order : Order) (cells : List Pair) (entries : List Taken) (state : State) (number : ℕ) (a b : Cell) → Runs order cells entries state
    → IsCellAt order number a → IsCellAt order number b → a.revision ≡ b.revision → a ≡ b
