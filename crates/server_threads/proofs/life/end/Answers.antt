use Rattle.server_threads.proofs.Ended.{all_ordered}
use Rattle.server_threads.proofs.life.end.Goals as goal

-- the board that came back; all of its order was taken off where the writer was told that nothing comes any more
pub returns-clause-counted : goal.returns-clause-counted
returns-clause-counted g c = record {
  progress = c.into_board-board.result.progress;
  run = c.end-ordered.ensures.run;
  begins = c.end-ordered.ensures.begins;
  counts = c.end-ordered.ensures.counts;
  all = all_ordered c.args.past.rights.writer c.args.past.flusher c.into_board-board.result.progress c.args.past.written c.args.past.all c.into_board-board.ensures;
}
