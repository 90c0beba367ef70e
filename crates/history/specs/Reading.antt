-- How the state that the parts of a store stand for is found: document by document, in order of their numbers.
use Rattle.std.specs.Prelude.{ℕ, ◌≡◌, ◌≤◌, ◌<◌, ◌+◌, Bool, true, false, Option, Some, None, List, [], ◌∷◌, length, slice_get}
use Rattle.revision.specs.Command.{Taken}
use Rattle.revision.specs.State.{Limits, State, adopts, adopted, all_grow, fold}
use Rattle.revision.specs.Invariants.{IsLimits, IsState}
use Rattle.history.specs.Entries.{of_document}
use Rattle.history.specs.Cell.{Cell, Pair, cells_at, Pick, picked}
use Rattle.history.specs.Found.{unread, StandsFor, StandFor}

-- a state that so far has, for each of its documents, what its cell and its entries represent
pub record HasRead (cells : List Pair) (entries : List Taken) (pick : Pick) (state : State) : Type 0 where
  pub is_state : IsState state
  pub each : (number : ℕ) → number < length state.documents
      → StandsFor state.limits (picked pick (cells_at cells number)) (of_document number entries) (slice_get state.documents number)

-- the state with a cell's document added, where there is a cell; and that it may be added
abbrev pub entered : State → Option Cell → State
entered state None = state
entered state (Some cell) = adopted state cell.name cell.content cell.revision cell.sources

abbrev pub enters : State → Option Cell → Bool
enters state None = true
enters state (Some cell) = adopts state cell.name cell.content cell.revision cell.sources

-- there is a cell or an entry of a document
abbrev pub is_there : Option Cell → List Taken → Bool
is_there None [] = false
is_there None (first ∷ others) = true
is_there (Some cell) entries = true

-- the cell of the next document, and its entries
abbrev pub next_cell : List Pair → Pick → State → Option Cell
next_cell cells pick state = picked pick (cells_at cells (length state.documents))

abbrev pub next_entries : List Taken → State → List Taken
next_entries entries state = of_document (length state.documents) entries

abbrev pub next_unread : List Pair → List Taken → Pick → State → List Taken
next_unread cells entries pick state = unread (next_cell cells pick state) (next_entries entries state)

-- the next document is there, its cell may be added, and its entries continue it
pub record ReadsNext (cells : List Pair) (entries : List Taken) (pick : Pick) (state : State) : Type 0 where
  pub there : is_there (next_cell cells pick state) (next_entries entries state) ≡ true
  pub enters : enters state (next_cell cells pick state) ≡ true
  pub grow : all_grow (entered state (next_cell cells pick state)) (next_unread cells entries pick state) ≡ true

-- the state with it
abbrev pub with_next : List Pair → List Taken → Pick → State → State
with_next cells entries pick state = fold (entered state (next_cell cells pick state)) (next_unread cells entries pick state)

-- nothing is left: no document of a number that isn't the state's has a cell or an entry
abbrev pub NothingLeft : List Pair → List Taken → Pick → State → Type 0
NothingLeft cells entries pick state = (number : ℕ) → length state.documents ≤ number
    → (picked pick (cells_at cells number) ≡ None) × (of_document number entries ≡ [])

-- The empty state has read nothing yet.
abbrev pub ReadingBegins : Type 0
ReadingBegins = (limits : Limits) (cells : List Pair) (entries : List Taken) (pick : Pick) → IsLimits limits
    → HasRead cells entries pick (record { limits = limits; documents = [] })

-- A document more is read.
abbrev pub ReadingGoesOn : Type 0
ReadingGoesOn = (cells : List Pair) (entries : List Taken) (pick : Pick) (state : State) → HasRead cells entries pick state
    → ReadsNext cells entries pick state
    → HasRead cells entries pick (with_next cells entries pick state)
    × (length (with_next cells entries pick state).documents ≡ length state.documents + 1)

-- Where nothing is left, the parts stand for what was read.
abbrev pub ReadingEnds : Type 0
ReadingEnds = (cells : List Pair) (entries : List Taken) (pick : Pick) (state : State) → HasRead cells entries pick state
    → NothingLeft cells entries pick state → StandFor state.limits cells entries pick state

-- Where the parts stand for a state, its documents are read one after the other, and then nothing is left: so where a test fails, or
-- something is left, they stand for none.
abbrev pub ReadingFinds : Type 0
ReadingFinds = (cells : List Pair) (entries : List Taken) (pick : Pick) (state found : State) → HasRead cells entries pick state
    → StandFor state.limits cells entries pick found
    → (length state.documents < length found.documents → ReadsNext cells entries pick state)
    × (length found.documents ≤ length state.documents → (state ≡ found) × NothingLeft cells entries pick state)
