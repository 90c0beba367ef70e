-- Limits of the program, without where they lie in memory.
use Rattle.revision.specs.declared.rule.limits.Limits.TheInside.{Inside}
use Rattle.revision.specs.State.{Limits}

abbrev pub limits_of : Inside → Limits
limits_of l = record { docs = l.docs; sources = l.sources; weight = l.weight; width = l.width; keep = l.keep; retry = l.retry }

abbrev pub limits_from : Limits → Inside
limits_from l = record { docs = l.docs; sources = l.sources; weight = l.weight; width = l.width; keep = l.keep; retry = l.retry }
