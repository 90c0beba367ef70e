use Rattle.std.proofs.Common.{◌≡◌}
use Rattle.hub.proofs.hub.Hub.wait_work.Given as goal

abbrev pub invariant-loop : goal.invariant-loop
invariant-loop g l = l.writer ≡ l.fn.writer
