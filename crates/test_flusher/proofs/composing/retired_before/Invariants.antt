use Rattle.turns.specs.Counting.{IsAt}
use Rattle.test_flusher.proofs.composing.retired_before.Given as goal

abbrev pub invariant-loop-command : goal.invariant-loop-command
invariant-loop-command g l = IsAt l.writer l.flusher
