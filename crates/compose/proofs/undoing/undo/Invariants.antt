use Rattle.std.proofs.Common.{drop}
use Rattle.compose.proofs.WayBack.{IsPartlyUndone}
use Rattle.compose.proofs.undoing.undo.Given as goal

abbrev pub invariant-loop-op : goal.invariant-loop-op
invariant-loop-op l = IsPartlyUndone l.document l.left l.delta (drop l.op-index l.ops) l.made
