use Rattle.turns.specs.Counting.{IsAt}
use Rattle.test_flusher.proofs.upkeep.write_commands.Given as goal

abbrev pub invariant-loop-place : goal.invariant-loop-place
invariant-loop-place g l = IsAt l.writer l.flusher
