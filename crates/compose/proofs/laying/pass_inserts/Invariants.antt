use Rattle.std.proofs.Common.{length}
use Rattle.delta.specs.Cursor.{operations_left}
use Rattle.compose.proofs.LaidOver.{IsPassed}
use Rattle.compose.proofs.laying.pass_inserts.Given as goal

abbrev pub invariant-loop-op : goal.invariant-loop-op
invariant-loop-op l = IsPassed l.fn.out (operations_left l.fn.second) l.out (operations_left l.second)

abbrev pub decreases-loop-op : goal.decreases-loop-op
decreases-loop-op l = length (operations_left l.second)
