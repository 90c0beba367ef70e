-- The revisions of the two cells of a document, None where one isn't open.
use Rattle.std.specs.Prelude.{ℕ, min, max, nat_lt, if◌then◌else◌, Option, Some, None}
use Rattle.history.specs.Cell.{Cell, Pair}

-- the revision of what a cell holds, and of both
abbrev pub revision_in : Option Cell → Option ℕ
revision_in None = None
revision_in (Some cell) = Some cell.revision

abbrev pub Revisions : Type 0
Revisions = Option ℕ × Option ℕ

abbrev pub revisions_in : Pair → Revisions
revisions_in pair = (revision_in pair.0, revision_in pair.1)

-- the lowest of the revisions, 0 where there is none
abbrev pub lowest_of : Revisions → ℕ
lowest_of (None, None) = 0
lowest_of (None, Some second) = second
lowest_of (Some first, None) = first
lowest_of (Some first, Some second) = min first second

-- the highest of the revisions, 0 where there is none
abbrev pub highest_of : Revisions → ℕ
highest_of (None, None) = 0
highest_of (None, Some second) = second
highest_of (Some first, None) = first
highest_of (Some first, Some second) = max first second

-- the revisions with the lower one gone where there are two, of two that are equal the first
abbrev pub freed_of : Revisions → Revisions
freed_of (None, second) = (None, second)
freed_of (Some first, None) = (Some first, None)
freed_of (Some first, Some second) = if nat_lt second first then (Some first, None) else (None, Some second)

-- the revisions with one put where there is none: the first before the second
abbrev pub with_revision : ℕ → Revisions → Revisions
with_revision revision (None, second) = (Some revision, second)
with_revision revision (Some first, second) = (Some first, Some revision)
