use Rattle.std.proofs.Common.{◌≡◌, take}
use Rattle.delta.proofs.ops.copy_ops.Given as goal

abbrev pub invariant-loop-op : goal.invariant-loop-op
invariant-loop-op l = l.copy.items ≡ take l.op-index l.ops
