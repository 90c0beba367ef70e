-- A milestone of the program, without where it lies in memory.
use Rattle.milestone.specs.declared.milestone.Milestone.TheInside.{Inside}
use Rattle.history.specs.Cell.{Cell}

abbrev pub milestone_of : Inside → Cell
milestone_of m = record { name = m.name; revision = m.revision; content = record { units = m.document; live = m.live }; sources = m.sources }
