use Rattle.std.proofs.Common.{length, ◌-◌}
use Rattle.utf16.proofs.Places.{IsCounted}
use Rattle.utf16.proofs.cut.place_at.Given as goal

abbrev pub invariant-loop-bytes : goal.invariant-loop-bytes
invariant-loop-bytes l = IsCounted l.text l.bytes l.units l.at

abbrev pub decreases-loop-bytes : goal.decreases-loop-bytes
decreases-loop-bytes l = length l.all - l.bytes
