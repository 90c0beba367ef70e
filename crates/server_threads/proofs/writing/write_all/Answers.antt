use Rattle.server_threads.proofs.Served.{written_ill}
use Rattle.server_threads.proofs.writing.write_all.Goals as goal

-- the token's refusal is what was written
pub returns-in-Err-clause-written : goal.returns-in-Err-clause-written
returns-in-Err-clause-written g c =
    written_ill g.L.Life.start c.args.flusher.now c.flush_all.new.flusher c.in-Err.failed c.refusal-refusal.result c.refusal-refusal.ensures c.in-Err.ensures.written
