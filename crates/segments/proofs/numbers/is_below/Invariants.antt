use Rattle.std.proofs.Common.{◌≢◌, ℕ, ◌<◌, Some}
use Rattle.segments.specs.Numbers.{number_at}
use Rattle.segments.proofs.numbers.is_below.Given as goal

abbrev pub invariant-loop-other : goal.invariant-loop-other
invariant-loop-other l = (before : ℕ) → before < l.other → number_at l.numbers before ≢ Some l.number
