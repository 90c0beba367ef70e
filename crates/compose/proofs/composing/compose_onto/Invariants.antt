use Rattle.std.specs.Vec.Iter.{into_iter_items}
use Rattle.delta.specs.Cursor.{operations_left}
use Rattle.compose.specs.steps.PartlyComposed.{IsPartlyComposed}
use Rattle.compose.proofs.composing.compose_onto.Given as goal

abbrev pub invariant-loop-op : goal.invariant-loop-op
invariant-loop-op l = IsPartlyComposed l.fn.first l.fn.second l.out (into_iter_items l.op-iterator) (operations_left l.rest)
