use Rattle.std.proofs.Common.{◌≡◌, length, ◌≤◌, ◌-◌, take}
use Rattle.utf16.specs.Begun.{begun_in}
use Rattle.utf16.proofs.cut.blocks_before.Given as goal

-- what has been counted, and does not pass the place
abbrev pub invariant-loop-bytes : goal.invariant-loop-bytes
invariant-loop-bytes l = (l.bytes ≤ length l.all) × (l.units ≡ begun_in (take l.bytes l.all)) × (l.units ≤ l.at)

abbrev pub decreases-loop-bytes : goal.decreases-loop-bytes
decreases-loop-bytes l = length l.all - l.bytes
