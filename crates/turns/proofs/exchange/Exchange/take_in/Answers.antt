use Rattle.turns.proofs.Writing.{upkeep_none}
use Rattle.turns.proofs.exchange.Exchange.take_in.Goals as goal

pub returns-in-Ok-clause-upkeep : goal.returns-in-Ok-clause-upkeep
returns-in-Ok-clause-upkeep g c = upkeep_none tt c.args.flusher.now
