-- What is known in memory of the entries of open segments: the greatest revision of each document in each segment.
use Rattle.std.specs.Prelude.{◌≡◌, ◌≢◌, ◌≤◌, ℕ, ◌+◌, ◌-◌, ◌==◌, ◌&&◌, not, max, if◌then◌else◌, Bool, List, [], ◌∷◌, filter, length, vec_capacity}
use Rattle.revision.specs.Command.{Taken}
use Rattle.history.specs.Entries.{greatest}
use Rattle.recovery.specs.declared.marks.Mark.{Mark}
use Rattle.recovery.specs.declared.marks.Marks.{Marks}

-- the marks, and for how many more there is memory
abbrev pub marks_of : Marks → List Mark
marks_of marks = marks.list.items

abbrev pub room_of : Marks → ℕ
room_of marks = vec_capacity marks.list - length marks.list.items

-- it is one of this segment
abbrev pub is_of : ℕ → Mark → Bool
is_of segment mark = mark.segment == segment

-- the marks of this segment
abbrev pub within_segment : ℕ → List Mark → List Mark
within_segment segment marks = filter (is_of segment) marks

-- the marks of other segments than this one
abbrev pub without_segment : ℕ → List Mark → List Mark
without_segment segment marks = filter (λ mark. not (is_of segment mark)) marks

-- its revision where it is the mark of this document in this segment, else 0
abbrev pub revision_for : ℕ → ℕ → Mark → ℕ
revision_for segment document mark = if is_of segment mark && (mark.document == document) then mark.revision else 0

-- the greatest revision that is marked of a document in a segment, 0 where there is none
abbrev pub greatest_marked : ℕ → ℕ → List Mark → ℕ
greatest_marked segment document [] = 0
greatest_marked segment document (first ∷ others) = max (revision_for segment document first) (greatest_marked segment document others)

-- The mark of one document in one segment is raised to a revision, and no other one changes. One mark more is kept at most.
pub record Raised (segment document revision : ℕ) (before after : List Mark) : Type 0 where
  pub here : greatest_marked segment document after ≡ max revision (greatest_marked segment document before)
  pub documents : (other : ℕ) → other ≢ document → greatest_marked segment other after ≡ greatest_marked segment other before
  pub segments : (other number : ℕ) → other ≢ segment → greatest_marked other number after ≡ greatest_marked other number before
  pub grows : length after ≤ length before + 1

-- The marks of a segment are raised to the greatest revisions among more entries of it, and those of other segments stay. One mark more is
-- kept at most for each entry.
pub record IsNoted (segment : ℕ) (entries : List Taken) (before after : List Mark) : Type 0 where
  pub here : (document : ℕ) → greatest_marked segment document after ≡ max (greatest document entries) (greatest_marked segment document before)
  pub segments : (other document : ℕ) → other ≢ segment → greatest_marked other document after ≡ greatest_marked other document before
  pub grows : length after ≤ length before + length entries
