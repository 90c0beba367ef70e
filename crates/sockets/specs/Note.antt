-- The event that a number and bytes stand for among notes.
use Rattle.std.specs.Prelude.{ℕ, List, slice_index, ◌==◌, if◌then◌else◌}
use Rattle.sockets.specs.Socket.{Event, Came, AcceptFailed, Read, ReadWaited, InputEnded, ReadFailed, Wrote, WriteWaited, WriteFailed, Closed}

abbrev pub event_of : List ℕ → List ℕ → Event
event_of numbers bytes =
    let kind = slice_index numbers 0 in
    if kind == 0 then Came
    else if kind == 1 then AcceptFailed
    else if kind == 2 then Read bytes
    else if kind == 3 then ReadWaited
    else if kind == 4 then InputEnded
    else if kind == 5 then ReadFailed
    else if kind == 6 then Wrote bytes
    else if kind == 7 then WriteWaited
    else if kind == 8 then WriteFailed
    else Closed
