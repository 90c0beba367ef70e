use Rattle.turns.specs.Counting.{IsAt}
use Rattle.test_flusher.proofs.upkeep.alone.Given as goal

abbrev pub invariant-loop : goal.invariant-loop
invariant-loop g l = IsAt l.writer l.flusher

abbrev pub invariant-loop-2 : goal.invariant-loop-2
invariant-loop-2 g l = IsAt l.writer l.flusher
