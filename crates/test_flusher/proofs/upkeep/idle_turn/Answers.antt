use Rattle.turns.proofs.CallerLemmas.{at_kept_up}
use Rattle.test_flusher.proofs.upkeep.idle_turn.Goals as goal

pub returns : goal.returns
returns g c = record { at = at_kept_up c.turn.new.writer c.turn.new.flusher c.retire.new.self c.retire.ensures.keeps c.turn.ensures.at }
