-- The event that numbers and bytes stand for in a record: a kind, an offset and a count.
use Rattle.std.specs.Prelude.{ℕ, List, replicate, slice_index, ◌==◌, if◌then◌else◌}
use Rattle.disk.specs.Event.{Event, Opened, Read, FailedRead, Write, FailedWrite, Sync, FailedSync}

abbrev pub event_of : List ℕ → List ℕ → Event
event_of numbers bytes =
    let kind = slice_index numbers 0 in
    let at = slice_index numbers 1 in
    let count = slice_index numbers 2 in
    -- (the record takes some content of this length)
    if kind == 0 then Opened (replicate count 0)
    else if kind == 1 then Read at bytes
    else if kind == 2 then FailedRead
    else if kind == 3 then Write at bytes
    else if kind == 4 then FailedWrite at count
    else if kind == 5 then Sync
    else FailedSync
