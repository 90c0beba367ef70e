use Rattle.std.proofs.Common.{take}
use Rattle.lives.specs.Schedule.{AreNumbered}
use Rattle.lives.proofs.laws.are_numbered.Given as goal

abbrev pub invariant-loop-call : goal.invariant-loop-call
invariant-loop-call l = AreNumbered (take l.call-index l.calls)
