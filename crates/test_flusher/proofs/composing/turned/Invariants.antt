use Rattle.turns.specs.Counting.{IsAt}
use Rattle.test_flusher.proofs.composing.turned.Given as goal

abbrev pub invariant-loop : goal.invariant-loop
invariant-loop g l = IsAt l.writer l.flusher
