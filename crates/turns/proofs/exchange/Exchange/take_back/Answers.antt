use Rattle.std.proofs.Common.{Ok}
use Rattle.turns.proofs.Writing.{upkeep_none, upkeep_on}
use Rattle.turns.proofs.exchange.Exchange.take_back.Goals as goal

pub loop-init : goal.loop-init
loop-init g c = upkeep_none tt c.args.flusher.now

pub loop-preserved : goal.loop-preserved
loop-preserved g c = upkeep_on tt (Ok tt) c.args.flusher.now c.loop.flusher c.take_in.new.flusher c.loop.invariant c.take_in.ensures.upkeep
