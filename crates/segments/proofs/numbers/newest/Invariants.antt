use Rattle.segments.specs.steps.Search.{IsNewestSoFar}
use Rattle.segments.proofs.numbers.newest.Given as goal

abbrev pub invariant-loop-slot : goal.invariant-loop-slot
invariant-loop-slot l = IsNewestSoFar l.numbers l.slot l.newest
