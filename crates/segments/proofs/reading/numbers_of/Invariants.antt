use Rattle.std.proofs.Common.{◌≡◌, map, take}
use Rattle.segments.specs.steps.Reading.{number_read}
use Rattle.segments.proofs.reading.numbers_of.Given as goal

abbrev pub invariant-loop-slot : goal.invariant-loop-slot
invariant-loop-slot l = l.numbers.items ≡ map number_read (take l.slot-index l.slots)
