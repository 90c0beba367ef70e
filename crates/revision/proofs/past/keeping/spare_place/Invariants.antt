use Rattle.std.proofs.Common.{◌≤◌, length}
use Rattle.revision.proofs.past.keeping.spare_place.Given as goal

abbrev pub invariant-loop-left : goal.invariant-loop-left
invariant-loop-left l = l.left ≤ length l.kept

abbrev pub decreases-loop-left : goal.decreases-loop-left
decreases-loop-left l = l.left
