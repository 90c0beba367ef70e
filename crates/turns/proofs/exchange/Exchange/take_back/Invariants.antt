use Rattle.turns.specs.Writing.{IsUnrefused}
use Rattle.turns.proofs.exchange.Exchange.take_back.Given as goal

abbrev pub invariant-loop : goal.invariant-loop
invariant-loop g l = IsUnrefused l.fn.flusher l.flusher
