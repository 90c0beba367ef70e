use Rattle.std.proofs.Common.{◌≡◌}
use Rattle.recovery.proofs.group.prune_each.Given as goal

abbrev pub invariant-loop-member : goal.invariant-loop-member
invariant-loop-member l = l.state ≡ l.fn.state
