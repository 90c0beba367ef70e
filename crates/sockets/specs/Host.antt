-- What a listener and the halves of a connection were asked, as callers see them.
use Rattle.std.specs.Prelude.{◌==◌, ◌&&◌, ℕ, Bool, true, List, [], ◌∷◌, length}
use Rattle.sockets.specs.declared.raw.HostListener.{HostListener}
use Rattle.sockets.specs.declared.raw.HostReader.{HostReader}
use Rattle.sockets.specs.declared.raw.HostWriter.{HostWriter}
use Rattle.sockets.specs.declared.raw.Visit.{Visit}
use Rattle.sockets.specs.Socket.{Event}

-- the calls and what came of them, newest first
abbrev pub arrivals_of : {N : Type 0} → HostListener N → List Event
arrivals_of listener = listener.notes.events

abbrev pub reads_of : HostReader → List Event
reads_of reader = reader.notes.events

abbrev pub writes_of : HostWriter → List Event
writes_of writer = writer.notes.events

-- how many connections had come before this one, by either half of it
abbrev pub number_read : HostReader → ℕ
number_read reader = reader.number

abbrev pub number_written : HostWriter → ℕ
number_written writer = writer.number

-- the calls of a connection that is closed
abbrev pub reads_in : Visit → List Event
reads_in visit = visit.reads.events

abbrev pub writes_in : Visit → List Event
writes_in visit = visit.writes.events

-- nothing was read from this one, and nothing written to it
abbrev pub is_unasked : Visit → Bool
is_unasked visit = (length (reads_in visit) == 0) && (length (writes_in visit) == 0)

abbrev pub are_unasked : List Visit → Bool
are_unasked [] = true
are_unasked (visit ∷ visits) = is_unasked visit && are_unasked visits
