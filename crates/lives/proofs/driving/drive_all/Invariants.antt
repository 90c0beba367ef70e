use Rattle.std.proofs.Common.{◌≡◌, ◌+◌, false, [], length, take}
use Rattle.recovery.specs.Open.{has_failed}
use Rattle.flusher.specs.Flushers.{cap_of}
use Rattle.flusher.specs.Holding.{store_of}
use Rattle.flusher.specs.Standing.{IsCalm, standing}
use Rattle.lives.specs.Run.{RunGoes}
use Rattle.lives.specs.Driving.{between, Answered}
use Rattle.lives.proofs.driving.drive_all.Given as goal

abbrev pub invariant-loop-call : goal.invariant-loop-call
invariant-loop-call g l = record {
  calm : IsCalm g.L.Life.start (standing l.board l.flusher);
  works : has_failed (store_of l.flusher) ≡ false;
  failed : l.board.failed ≡ l.fn.board.failed;
  goes : RunGoes g.L.Life.start (standing l.fn.board l.fn.flusher) (standing l.board l.flusher);
  counts : l.seat + length l.fn.board.progress.order ≡ l.fn.seat + length l.board.progress.order;
  count : length l.answers.items ≡ l.call-index;
  answered : Answered (cap_of g.L.Life.start) (between l.fn.board [] l.fn.flusher) (take l.call-index l.calls) l.answers.items (between l.board l.tickets.items l.flusher);
}
