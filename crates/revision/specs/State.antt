-- What a store holds: documents in order of creation, under limits; and what continues it.
use Rattle.std.specs.Prelude.{ℕ, zero, suc, ◌+◌, ◌-◌, ◌*◌, ◌^◌, ◌==◌, ◌&&◌, ◌||◌, not, nat_lt, nat_le, bytes_eq, if◌then◌else◌, Bool, true, false, Option, Some, None, is_none, List, [], ◌∷◌, ◌++◌, length, slice_get}
use Rattle.attributes.specs.Map.{empty}
use Rattle.delta.specs.Element.{Element}
use Rattle.delta.specs.Operation.{Operation}
use Rattle.delta.specs.Gaps.{counted, units_below}
use Rattle.document.specs.Weight as document
use Rattle.revision.specs.Command.{Taken, Step, Edits, Deletes, Revives, edits, width_of}
use Rattle.revision.specs.Window.{longest, Window, ascend}
use Rattle.revision.specs.Sources.{Sources, window_of, count_of, total_of, with_taken}
use Rattle.revision.specs.Parting.{parts_pair}
use Rattle.revision.specs.Past.{Content, Change, Next, Past, is_content, suits, units_after, empty_past, newest, content_at, sources_at, with_step}

-- How much a state may hold: documents, sources of a document, a document's weight, the bytes of a command's entry in the journal,
-- and how many revisions below the newest one are held; and what each number of a window weighs.
pub record Limits : Type 0 where
  pub docs : ℕ
  pub sources : ℕ
  pub weight : ℕ
  pub width : ℕ
  pub keep : ℕ
  pub retry : ℕ

-- A record of a document: its name, and its past, from which all else comes.
pub record DocumentRecord : Type 0 where
  pub name : List ℕ
  pub past : Past

-- the document's newest revision, with its content, its units and its sources there
abbrev pub revision_of : DocumentRecord → ℕ
revision_of document = newest document.past

-- 0 where there is no document
abbrev pub newest_revision : Option DocumentRecord → ℕ
newest_revision None = 0
newest_revision (Some document) = revision_of document

abbrev pub content_of : DocumentRecord → Content
content_of document = content_at document.past (revision_of document)

abbrev pub units_of : DocumentRecord → List Element
units_of document = (content_of document).units

abbrev pub sources_of : DocumentRecord → Sources
sources_of document = sources_at document.past (revision_of document)

-- it isn't deleted: its past doesn't reach over a deletion, so what is so at the floor is so since
abbrev pub is_live : DocumentRecord → Bool
is_live document = document.past.content.live

-- the records in order of creation, with the limits
pub record State : Type 0 where
  pub limits : Limits
  pub documents : List DocumentRecord

-- the document of a name with its number, counted from this one on
abbrev pub find : List ℕ → ℕ → List DocumentRecord → Option (ℕ × DocumentRecord)
find name number [] = None
find name number (first ∷ others) = if bytes_eq first.name name then Some (number, first) else find name (number + 1) others

-- the last revision and the last number
abbrev pub last_of_all : ℕ
last_of_all = 2 ^ 53 - 1

-- a delta speaks of units that aren't there
abbrev pub reaches_past : List Operation → List Element → Bool
reaches_past delta units = nat_lt (length units) (units_below (counted delta))

-- A source with one number weighs 64, and each further number of its window weighs more.
abbrev pub window_weight : Limits → Window → ℕ
window_weight limits window = 64 - limits.retry + limits.retry * length window.revisions

abbrev pub weight_of_sources : Limits → Sources → ℕ
weight_of_sources limits sources = total_of (window_weight limits) sources.entries

-- the weight of the document's units, and of its sources
abbrev pub weight_of : Limits → List Element → Sources → ℕ
weight_of limits units sources = document.weight_of units + weight_of_sources limits sources

-- the weight of a document after a command on units and sources before it
abbrev pub weight_after : Limits → List Element → Sources → Taken → ℕ
weight_after limits units sources taken =
    weight_of limits (units_after units taken.step taken.delta) (with_taken taken.source taken.number taken.revision sources)

-- a source has its place in a document: it is there, or there is room for one more
abbrev pub has_place : Limits → List ℕ → Sources → Bool
has_place limits source sources = not ((window_of source sources).number == 0) || nat_lt (count_of sources) limits.sources

-- a delta is defined on these units, and parts no pair
abbrev pub stands_on : List Operation → List Element → Bool
stands_on delta units = not (reaches_past delta units) && not (parts_pair delta units)

-- the delta of a step stands where it has to: on what stands in the document, or on the empty document where it is created again
abbrev pub stands : Step → List Operation → List Element → Bool
stands Edits delta units = stands_on delta units
stands Deletes delta units = true
stands Revives delta units = stands_on delta []

-- a command's delta stands where it has to, and leaves a document that is no heavier than it may be
abbrev pub stays_light : Limits → List Element → Sources → Taken → Bool
stays_light limits units sources taken =
    stands taken.step taken.delta units && nat_le (weight_after limits units sources taken) limits.weight

-- what a command keeps that is taken on these units and sources: it leaves a light document, and its entry is as short as it has to be
abbrev pub keeps : Limits → List Element → Sources → Taken → Bool
keeps limits units sources taken = stays_light limits units sources taken && nat_le (width_of taken) limits.width

-- A creation begins a document: it is revision 1, by its source's first command.
abbrev pub begins : Limits → Taken → Bool
begins limits taken = edits taken.step && (taken.revision == 1) && (taken.number == 1) && keeps limits [] empty taken

-- a change is the next one after a revision with these sources: it has its source's next number, and its source has a place
abbrev pub comes_next : Limits → ℕ → Sources → Taken → Bool
comes_next limits revision sources taken =
    (taken.revision == revision + 1) && not (revision == last_of_all)
    && (taken.number == (window_of taken.source sources).number + 1) && nat_le taken.number last_of_all
    && has_place limits taken.source sources

-- a command follows the newest revision of a document: it suits its mark, is the next one, and keeps the limits
abbrev pub follows : Limits → DocumentRecord → Taken → Bool
follows limits found taken =
    suits (is_live found) taken.step && comes_next limits (revision_of found) (sources_of found) taken
    && keeps limits (units_of found) (sources_of found) taken

-- A command continues a document: it creates it where it isn't there, and changes, deletes or revives it where it is.
abbrev pub continues_by_name : Limits → Option DocumentRecord → Taken → Option (List ℕ) → Bool
continues_by_name limits None taken None = false
continues_by_name limits None taken (Some name) = begins limits taken
continues_by_name limits (Some found) taken None = follows limits found taken
continues_by_name limits (Some found) taken (Some name) = false

abbrev pub continues : Limits → Option DocumentRecord → Taken → Bool
continues limits found taken = continues_by_name limits found taken taken.name

-- the change that a command makes
abbrev pub change_of : Taken → Change
change_of taken = record { source = taken.source; number = taken.number; delta = taken.delta }

-- what it does to the document
abbrev pub next_of : Taken → Next
next_of taken = record { step = taken.step; change = change_of taken }

-- the document after a command
abbrev pub record_by_name : ℕ → Option DocumentRecord → Taken → Option (List ℕ) → Option DocumentRecord
record_by_name keep None taken None = None
record_by_name keep None taken (Some name) = Some (record { name = name; past = with_step keep empty_past taken.step (change_of taken) })
record_by_name keep (Some found) taken name = Some (record found { past = with_step keep found.past taken.step (change_of taken) })

abbrev pub record_after : ℕ → Option DocumentRecord → Taken → Option DocumentRecord
record_after keep found taken = record_by_name keep found taken taken.name

-- commands of one document in order: each continues it as those before have left it; and the document after them all
abbrev pub all_continue : Limits → Option DocumentRecord → List Taken → Bool
all_continue limits found [] = true
all_continue limits found (first ∷ others) =
    continues limits found first && all_continue limits (record_after limits.keep found first) others

abbrev pub record_after_all : ℕ → Option DocumentRecord → List Taken → Option DocumentRecord
record_after_all keep found [] = found
record_after_all keep found (first ∷ others) = record_after_all keep (record_after keep found first) others

-- There is room for a new document, which has the next number and a name that isn't there.
abbrev pub has_room : State → ℕ → Option (List ℕ) → Bool
has_room state number None = true
has_room state number (Some name) =
    (number == length state.documents) && nat_lt (length state.documents) state.limits.docs && is_none (find name 0 state.documents)

-- A command that was taken continues the state: it continues the document of its number, and has room where it is a creation.
abbrev pub grows : State → Taken → Bool
grows state taken = has_room state taken.document taken.name && continues state.limits (slice_get state.documents taken.document) taken

-- the documents with the one of this number set, which is there or is the next one
abbrev pub set_document : ℕ → Option DocumentRecord → List DocumentRecord → List DocumentRecord
set_document number None documents = documents
set_document zero (Some document) [] = document ∷ []
set_document (suc number) (Some document) [] = []
set_document zero (Some document) (first ∷ others) = document ∷ others
set_document (suc number) (Some document) (first ∷ others) = first ∷ set_document number (Some document) others

-- the state with the command added
abbrev pub grown : State → Taken → State
grown state taken = record state {
  documents = set_document taken.document (record_after state.limits.keep (slice_get state.documents taken.document) taken) state.documents;
}

-- commands in order: each continues the state that those before have made
abbrev pub all_grow : State → List Taken → Bool
all_grow state [] = true
all_grow state (first ∷ others) = grows state first && all_grow (grown state first) others

-- The first of these commands, where there is one, continues the state.
abbrev pub first_grows : State → List Taken → Bool
first_grows state [] = true
first_grows state (first ∷ others) = grows state first

-- the state with commands added in order
abbrev pub fold : State → List Taken → State
fold state [] = state
fold state (first ∷ others) = fold (grown state first) others

-- what a source may have in a document at a revision: as many numbers as a window may have, no more than there are up to its last one,
-- with revisions that they may have come to
abbrev pub is_window : ℕ → Window → Bool
is_window revision window =
    nat_le 1 (length window.revisions) && nat_le (length window.revisions) longest && nat_le (length window.revisions) window.number
    && nat_le window.number last_of_all && ascend 0 revision window.revisions

abbrev pub are_sources : ℕ → List (List ℕ × Window) → Bool
are_sources revision [] = true
are_sources revision (first ∷ others) = is_window revision first.1 && are_sources revision others

-- a document is deleted as revision 2 or above, since a creation makes the first one
abbrev pub is_mark_at : Bool → ℕ → Bool
is_mark_at live revision = live || nat_le 2 revision

-- A document may be added at a revision, without the past before it, with its sources: the limits are kept, its name is new, and
-- the content, the revision and the sources are such as can be.
abbrev pub adopts : State → List ℕ → Content → ℕ → Sources → Bool
adopts state name content revision sources =
    nat_lt (length state.documents) state.limits.docs && is_none (find name 0 state.documents)
    && is_content content && is_mark_at content.live revision && nat_le 1 revision && nat_le revision last_of_all
    && nat_le (count_of sources) state.limits.sources && are_sources revision sources.entries
    && nat_le (weight_of state.limits content.units sources) state.limits.weight

-- a document whose past begins at a revision
abbrev pub record_at : List ℕ → Content → ℕ → Sources → DocumentRecord
record_at name content revision sources =
    record { name = name; past = record { floor = revision; content = content; sources = sources; changes = [] } }

abbrev pub adopted : State → List ℕ → Content → ℕ → Sources → State
adopted state name content revision sources =
    record state { documents = state.documents ++ record_at name content revision sources ∷ [] }
