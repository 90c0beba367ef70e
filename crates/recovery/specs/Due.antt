-- Where a job of a document is due, with a milestone for each so many revisions.
use Rattle.std.specs.Prelude.{ℕ, ◌*◌, ◌/◌, nat_lt, ◌&&◌, not, max, if◌then◌else◌, Bool, Option, Some, None}
use Rattle.revision.specs.State.{DocumentRecord, revision_of}

-- A job of this revision, 0 where none was handed out, is out: the document still holds its revision.
abbrev pub is_out : ℕ → ℕ → Bool
is_out last floor = nat_lt 0 last && not (nat_lt last floor)

-- The revision to which a job of a document is due: the greatest multiple of a number up to its own revision, or its floor where that is greater.
-- None is due where an open cell or the last job reaches the multiple, or the last job is still out.
abbrev pub job_due_of : ℕ → DocumentRecord → ℕ → ℕ → Option ℕ
job_due_of every found highest last =
    if nat_lt (max highest last) (revision_of found / every * every) && not (is_out last found.past.floor)
    then Some (max (revision_of found / every * every) found.past.floor) else None

abbrev pub job_due_for : ℕ → Option DocumentRecord → ℕ → ℕ → Option ℕ
job_due_for every None highest last = None
job_due_for every (Some found) highest last = job_due_of every found highest last
