use Rattle.std.proofs.Common.{◌≢◌, ℕ, ◌<◌, None}
use Rattle.segments.specs.Numbers.{number_at}
use Rattle.segments.proofs.numbers.lowest_closed.Given as goal

abbrev pub invariant-loop-slot : goal.invariant-loop-slot
invariant-loop-slot l = (other : ℕ) → other < l.slot → number_at l.numbers other ≢ None
