use Rattle.std.proofs.Common.{◌≡◌, take}
use Rattle.revision.proofs.past.sources.copy_of.Given as goal

abbrev pub invariant-loop-source : goal.invariant-loop-source
invariant-loop-source l = l.list.items ≡ take l.source-index l.entries
