use Rattle.std.proofs.Common.{◌+◌, length}
use Rattle.delta.specs.Cursor.{operations_left}
use Rattle.xform.specs.steps.Stepping.{IsPartlyMade}
use Rattle.xform.proofs.transforming.transform.Given as goal

-- what was made, and what is left of both, stand for the second after the first
abbrev pub invariant-loop-part : goal.invariant-loop-part
invariant-loop-part l = IsPartlyMade l.first l.second l.priority (operations_left l.one) (operations_left l.two) l.out

abbrev pub decreases-loop-part : goal.decreases-loop-part
decreases-loop-part l = length (operations_left l.one) + length (operations_left l.two)
