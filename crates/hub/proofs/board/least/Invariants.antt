use Rattle.std.proofs.Common.{◌<◌}
use Rattle.hub.proofs.board.least.Given as goal

abbrev pub invariant-loop-i : goal.invariant-loop-i
invariant-loop-i l = l.best < 64
