use Rattle.std.proofs.Common.{◌≡◌, ◌+◌, ◌≤◌, drop}
use Rattle.segments.specs.Numbers.{open_count}
use Rattle.segments.proofs.numbers.open_count.Given as goal

abbrev pub invariant-loop-slot : goal.invariant-loop-slot
invariant-loop-slot l = (l.count + open_count (drop l.slot l.numbers) ≡ open_count l.numbers) × (l.count ≤ l.slot)
