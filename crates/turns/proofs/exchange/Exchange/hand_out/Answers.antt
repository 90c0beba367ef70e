use Rattle.std.proofs.Common.{Ok}
use Rattle.turns.proofs.Writing.{upkeep_none, upkeep_on}
use Rattle.turns.proofs.exchange.Exchange.hand_out.Goals as goal

pub returns-then-not-send_again : goal.returns-then-not-send_again
returns-then-not-send_again g c = upkeep_none tt c.args.flusher.now

pub loop-init : goal.loop-init
loop-init g c = upkeep_none tt c.args.flusher.now

pub returns-then-not-hand_next : goal.returns-then-not-hand_next
returns-then-not-hand_next g c = upkeep_on tt (Ok tt) c.args.flusher.now c.loop.flusher c.hand_next.new.flusher c.loop.invariant c.hand_next.ensures.upkeep

pub loop-preserved : goal.loop-preserved
loop-preserved g c = upkeep_on tt (Ok tt) c.args.flusher.now c.loop.flusher c.hand_next.new.flusher c.loop.invariant c.hand_next.ensures.upkeep
