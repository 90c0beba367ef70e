use Rattle.turns.proofs.Writing.{upkeep_on}
use Rattle.turns.proofs.upkeep.Upkeep.keep_up.Goals as goal

pub returns : goal.returns
returns g c = upkeep_on c.in_default.field-0 c.retire_all.result c.args.flusher.now c.compose_on.new.flusher c.retire_all.new.flusher c.in_default.ensures c.retire_all.ensures
