use Rattle.std.proofs.Common.{◌≡◌, take}
use Rattle.revision.proofs.past.copying.copies_of_takers.Given as goal

abbrev pub invariant-loop-taker : goal.invariant-loop-taker
invariant-loop-taker l = l.copies.items ≡ take l.taker-index l.takers
