use Rattle.std.proofs.Common.{◌≡◌, ◌<◌, ◌^◌, max, drop}
use Rattle.segments.specs.Numbers.{newest_number}
use Rattle.segments.proofs.numbers.newest_number.Given as goal

abbrev pub invariant-loop-slot : goal.invariant-loop-slot
invariant-loop-slot l = (max l.newest (newest_number (drop l.slot l.numbers)) ≡ newest_number l.numbers) × (l.newest < 2 ^ 64)
