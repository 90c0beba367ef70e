use Rattle.std.proofs.Common.{Ok}
use Rattle.turns.proofs.Writing.{upkeep_on}
use Rattle.turns.proofs.exchange.Exchange.compose_on.Goals as goal

pub returns : goal.returns
returns g c = upkeep_on c.in_default.field-0 (Ok tt) c.args.flusher.now c.put_done.new.flusher c.hand_out.new.flusher c.in_default.ensures c.hand_out.ensures
