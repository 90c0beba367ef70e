use Rattle.turns.proofs.Writing.{upkeep_none}
use Rattle.turns.proofs.upkeep.Upkeep.compose_on.Goals as goal

pub returns-in-None : goal.returns-in-None
returns-in-None g c = upkeep_none tt c.args.flusher.now
