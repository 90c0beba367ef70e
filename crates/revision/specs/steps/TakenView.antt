-- A command that was taken, without where it lies in memory.
use Rattle.revision.specs.declared.rule.taken.Taken.TheInside.{Inside}
use Rattle.revision.specs.Command.{Taken}

abbrev pub taken_of : Inside → Taken
taken_of t = record { document = t.document; name = t.name; revision = t.revision; source = t.source; number = t.number; step = t.step; delta = t.delta }
