use Rattle.std.proofs.Common.{◌≡◌, ℕ, ◌<◌, Some}
use Rattle.segments.specs.Numbers.{number_at}
use Rattle.segments.proofs.numbers.differ.Given as goal

abbrev pub invariant-loop-slot : goal.invariant-loop-slot
invariant-loop-slot l = (one other n : ℕ) → one < l.slot → other < l.slot → number_at l.numbers one ≡ Some n → number_at l.numbers other ≡ Some n → one ≡ other
