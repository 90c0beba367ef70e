use Rattle.turns.proofs.CallerLemmas.{at_kept}
use Rattle.test_flusher.proofs.composing.retired_before.Goals as goal

pub loop-command-preserved : goal.loop-command-preserved
loop-command-preserved g c =
    at_kept c.flush_turn-turned.new.writer c.flush_turn-turned.new.flusher c.put_both.new.flusher c.put_both.ensures c.flush_turn-turned.ensures.at
