use Rattle.std.proofs.Common.{◌≡◌, length, ◌+◌}
use Rattle.utf16.specs.Begun.{begun_in}
use Rattle.utf16.proofs.len.len16.Given as goal

abbrev pub invariant-loop-rest : goal.invariant-loop-rest
invariant-loop-rest l = l.units + begun_in l.rest ≡ begun_in l.text

abbrev pub decreases-loop-rest : goal.decreases-loop-rest
decreases-loop-rest l = length l.rest
