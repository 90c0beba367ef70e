use Rattle.std.proofs.Common.{◌≡◌, ◌++◌, take}
use Rattle.revision.proofs.past.copying.push_copies.Given as goal

abbrev pub invariant-loop-delta : goal.invariant-loop-delta
invariant-loop-delta l = l.all.items ≡ l.initial.all.items ++ take l.delta-index l.deltas
