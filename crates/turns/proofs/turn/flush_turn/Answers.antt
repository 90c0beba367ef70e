use Rattle.std.proofs.Common.{Err, sym, subst}
use Rattle.turns.specs.Turning.{IsTurn}
use Rattle.turns.proofs.turn.flush_turn.Goals as goal

pub returns-in-Err-clause-turn : goal.returns-in-Err-clause-turn
returns-in-Err-clause-turn g c =
    subst (λ r. IsTurn g.L.Life.start c.args.flusher.now (Err r) c.try_turn.new.flusher) (sym c.stopped.ensures.why) c.in-Err.ensures.turn
