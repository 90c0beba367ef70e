use Rattle.std.proofs.Common.{◌+◌, length}
use Rattle.delta.specs.Cursor.{operations_left}
use Rattle.compose.proofs.LaidOver.{IsLaid}
use Rattle.compose.proofs.laying.lay.Given as goal

abbrev pub invariant-loop-op : goal.invariant-loop-op
invariant-loop-op l = IsLaid l.fn.out (operations_left l.fn.first) (operations_left l.fn.second) l.out (operations_left l.first) (operations_left l.second)

abbrev pub decreases-loop-op : goal.decreases-loop-op
decreases-loop-op l = length (operations_left l.first) + length (operations_left l.second)
