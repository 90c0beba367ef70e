use Rattle.std.proofs.Common.{◌≡◌, drop}
use Rattle.revision.specs.steps.Turning.{live_after_takers}
use Rattle.revision.proofs.past.live_after.Given as goal

-- those that are left decide
abbrev pub invariant-loop-taker : goal.invariant-loop-taker
invariant-loop-taker l = live_after_takers l.now (drop l.taker-index l.takers) ≡ live_after_takers l.live l.takers
