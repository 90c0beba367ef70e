use Rattle.turns.specs.Counting.{IsAt}
use Rattle.test_hostile.proofs.turning.send_steps.Given as goal

abbrev pub invariant-loop-at : goal.invariant-loop-at
invariant-loop-at g l = IsAt l.writer l.flusher
