use Rattle.std.proofs.Common.{◌≡◌, false}
use Rattle.recovery.specs.Open.{has_failed}
use Rattle.flusher.specs.Holding.{store_of}
use Rattle.turns.specs.Counting.{IsAt}
use Rattle.turns.specs.Writing.{Writes}
use Rattle.turns.proofs.turn.flush_all.Given as goal

abbrev pub invariant-loop : goal.invariant-loop
invariant-loop g l = record {
  works : has_failed (store_of l.fn.flusher) ≡ false → has_failed (store_of l.flusher) ≡ false;
  writes : Writes g.L.Life.start l.fn.flusher l.flusher;
  at : IsAt l.writer l.flusher;
}
