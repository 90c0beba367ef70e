-- What a file of the operating system was asked.
use Rattle.std.specs.Prelude.{List}
use Rattle.disk.specs.Event.{Event}
use Rattle.disk.specs.declared.raw.HostFile.{HostFile}

-- the calls and their answers, newest first
abbrev pub events_of : HostFile → List Event
events_of file = file.record.events
