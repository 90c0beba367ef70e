use Rattle.std.proofs.Common.{length}
use Rattle.delta.specs.Cursor.{operations_left}
use Rattle.compose.proofs.LaidOver.{Appends}
use Rattle.compose.proofs.laying.end.Given as goal

abbrev pub invariant-loop-op : goal.invariant-loop-op
invariant-loop-op l = Appends l.fn.out (operations_left l.fn.rest) l.out (operations_left l.rest)

abbrev pub decreases-loop-op : goal.decreases-loop-op
decreases-loop-op l = length (operations_left l.rest)
