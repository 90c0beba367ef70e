-- A store's history, and what a document shows of it.
use Rattle.std.specs.Prelude.{ℕ, ◌≡◌, ◌≤◌, Option, Some, None, List, [], ◌∷◌, ◌++◌, slice_get}
use Rattle.revision.specs.Command.{Taken}
use Rattle.revision.specs.declared.step.Step.{Step}
use Rattle.revision.specs.declared.step.Step.TheVariants.{Edits, Deletes, Revives}
use Rattle.revision.specs.Past.{Past, Change, content_after, empty_past, newest, newest_content, rebased, from_floor}
use Rattle.revision.specs.Floors.{longer}
use Rattle.revision.specs.State.{DocumentRecord, State, change_of}
use Rattle.history.specs.Entries.{of_document}
use Rattle.history.specs.Cell.{Cell}
use Rattle.history.specs.Found.{started}

-- the past with a step more, where nothing is let go but what a deletion or a creation again lets go of
abbrev pub longer_by : Past → Step → Change → Past
longer_by past Edits change = longer past change
longer_by past Deletes change = rebased past (content_after (newest_content past) Deletes change.delta) change
longer_by past Revives change = rebased past (content_after (newest_content past) Revives change.delta) change

-- what a command makes of a document that may be there
abbrev pub whole_by_name : Option DocumentRecord → Taken → Option (List ℕ) → Option DocumentRecord
whole_by_name None taken None = None
whole_by_name None taken (Some name) = Some (record { name = name; past = longer_by empty_past taken.step (change_of taken) })
whole_by_name (Some found) taken name = Some (record found { past = longer_by found.past taken.step (change_of taken) })

abbrev pub whole_after : Option DocumentRecord → Taken → Option DocumentRecord
whole_after found taken = whole_by_name found taken taken.name

-- and what commands in order make of it
abbrev pub whole_of : Option DocumentRecord → List Taken → Option DocumentRecord
whole_of found [] = found
whole_of found (first ∷ others) = whole_of (whole_after found first) others

-- A document shows one with all its past since it was deleted or created again last: it has its name, and is that from its own floor on.
pub record Shows (whole found : DocumentRecord) : Type 0 where
  pub name : found.name ≡ whole.name
  pub above : whole.past.floor ≤ found.past.floor
  pub floor : found.past.floor ≤ newest whole.past
  pub past : found.past ≡ from_floor whole.past found.past.floor

-- of documents that may be there
abbrev pub PlacesShow : Option DocumentRecord → Option DocumentRecord → Type 0
PlacesShow None None = Unit {0}
PlacesShow None (Some found) = ⊥
PlacesShow (Some whole) None = ⊥
PlacesShow (Some whole) (Some found) = Shows whole found

-- A store's history: the documents that it began with, each at a revision, in order of their numbers, and the commands that were taken
-- since, in order. A store that was formatted began with none.
pub record Order : Type 0 where
  pub start : List Cell
  pub taken : List Taken

-- the history of a store that was just formatted
abbrev pub no_order : Order
no_order = record { start = []; taken = [] }

-- the history with commands more
abbrev pub with_commands : Order → List Taken → Order
with_commands order batch = record order { taken = order.taken ++ batch }

-- what the document of a number began with, and what it is since with all its past
abbrev pub base_at : Order → ℕ → Option DocumentRecord
base_at order number = started (slice_get order.start number)

abbrev pub whole_at : Order → ℕ → Option DocumentRecord
whole_at order number = whole_of (base_at order number) (of_document number order.taken)

-- a state shows a history: each document shows what the history makes of it
abbrev pub StateShows : Order → State → Type 0
StateShows order state = (number : ℕ) → PlacesShow (whole_at order number) (slice_get state.documents number)
