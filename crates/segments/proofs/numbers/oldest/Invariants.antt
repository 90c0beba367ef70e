use Rattle.segments.specs.steps.Search.{IsOldestSoFar}
use Rattle.segments.proofs.numbers.oldest.Given as goal

abbrev pub invariant-loop-slot : goal.invariant-loop-slot
invariant-loop-slot l = IsOldestSoFar l.numbers l.slot l.oldest
