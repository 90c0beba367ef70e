use Rattle.std.proofs.Common.{◌≡◌, map, take}
use Rattle.revision.specs.Sources.{cut}
use Rattle.revision.proofs.past.sources.last_numbers_of.Given as goal

abbrev pub invariant-loop-source : goal.invariant-loop-source
invariant-loop-source l = l.list.items ≡ map cut (take l.source-index l.entries)
