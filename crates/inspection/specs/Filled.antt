-- How full a store is, as lines.
use Rattle.std.specs.Prelude.{List, ℕ, [], ◌∷◌, ◌++◌, ◌-◌, ◌+◌, if◌then◌else◌, length, codes}
use Rattle.std.specs.List.{flat_map}
use Rattle.std.specs.Fmt.{decimal}
use Rattle.disk.specs.declared.device.Disk.{Ghosts}
use Rattle.revision.specs.Sources.{count_of}
use Rattle.revision.specs.State.{Limits, DocumentRecord, State, revision_of, units_of, sources_of, is_live, weight_of}
use Rattle.recovery.specs.declared.shape.Shape.{Shape}
use Rattle.recovery.specs.declared.store.Store.{Store}
use Rattle.recovery.specs.Open.{state_of}
use Rattle.recovery.specs.Filling.{shape_of, open_slots, newest_segment, journal_bytes}

-- two parts with one blank between them
abbrev pub blank_between : List ℕ → List ℕ → List ℕ
blank_between front back = front ++ (32 ∷ back)

-- a fact: its name, its value, and a line end
abbrev pub fact : List ℕ → ℕ → List ℕ
fact name value = blank_between name (decimal value ++ 10 ∷ [])

-- the numbers that a store was made with, behind the format
abbrev pub shape_text : Shape → List ℕ
shape_text shape =
    fact (codes "format") 2 ++ (fact (codes "slots") shape.slots ++ (fact (codes "slot") shape.slot ++ (fact (codes "docs") shape.docs
    ++ (fact (codes "cell") shape.cell ++ (fact (codes "sources") shape.sources ++ fact (codes "keep") shape.keep)))))

-- how many documents are deleted
abbrev pub deleted_in : List DocumentRecord → ℕ
deleted_in [] = 0
deleted_in (first ∷ others) = if is_live first then deleted_in others else 1 + deleted_in others

-- how many documents there are, how many of them are deleted, and how many more there may be
abbrev pub documents_text : State → List ℕ
documents_text state =
    fact (codes "documents") (length state.documents) ++ (fact (codes "deleted") (deleted_in state.documents)
    ++ fact (codes "documents_left") (state.limits.docs - length state.documents))

-- how many slots of the journal are open, the number of its newest segment, and how many of its bytes are in use
abbrev pub journal_text : ℕ → ℕ → ℕ → List ℕ
journal_text opened newest used =
    fact (codes "slots_open") opened ++ (fact (codes "newest_segment") newest ++ fact (codes "journal_bytes") used)

module _ {D : Type 0} {disk : Ghosts D} where
  -- all facts of a store
  unfoldable pub info_of : Store D disk → List ℕ
  info_of store = shape_text (shape_of store) ++ (documents_text (state_of store) ++ journal_text (open_slots store) (newest_segment store) (journal_bytes store))

-- what a document weighs at its newest revision
abbrev pub weight_in : Limits → DocumentRecord → ℕ
weight_in limits document = weight_of limits (units_of document) (sources_of document)

abbrev pub mark_text : DocumentRecord → List ℕ
mark_text document = if is_live document then codes "live" else codes "deleted"

-- what a document is: name, revision, floor and mark, parted by one blank
abbrev pub held_text : List ℕ → ℕ → ℕ → List ℕ → List ℕ
held_text name revision floor mark = blank_between name (blank_between (decimal revision) (blank_between (decimal floor) mark))

-- what something comes to, and what is left of its limit
abbrev pub used_text : ℕ → ℕ → List ℕ
used_text used limit = blank_between (decimal used) (decimal (limit - used))

-- what a document is, its weight and what is left of that, its sources and what is left of them, and a line end
abbrev pub line_of : List ℕ → List ℕ → List ℕ → List ℕ
line_of held weight sources = blank_between held (blank_between weight (sources ++ 10 ∷ []))

abbrev pub document_line : Limits → DocumentRecord → List ℕ
document_line limits document =
    line_of (held_text document.name (revision_of document) document.past.floor (mark_text document))
    (used_text (weight_in limits document) limits.weight) (used_text (count_of (sources_of document)) limits.sources)

-- the lines of documents in order
abbrev pub lines_of : Limits → List DocumentRecord → List ℕ
lines_of limits documents = flat_map (document_line limits) documents
