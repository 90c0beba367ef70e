use Rattle.std.proofs.Common.{Ok}
use Rattle.std.specs.Prelude.{Err}
use Rattle.turns.proofs.Writing.{upkeep_as, upkeep_refused, upkeep_on}
use Rattle.turns.proofs.exchange.Exchange.put_done.Goals as goal

pub loop-init : goal.loop-init
loop-init g c = c.take_back.ensures

pub returns-in-Err : goal.returns-in-Err
returns-in-Err g c =
    upkeep_on tt (Err c.in-Err.refusal) c.args.flusher.now c.loop.flusher c.put_first.new.flusher c.loop.invariant
    (upkeep_refused c.in-Err.refusal c.loop.flusher c.put_first.new.flusher c.in-Err.ensures.upkeep)

pub returns-then-not-more : goal.returns-then-not-more
returns-then-not-more g c =
    upkeep_on tt (Ok tt) c.args.flusher.now c.loop.flusher c.put_first.new.flusher c.loop.invariant
    (upkeep_as c.in-Ok.more tt c.loop.flusher c.put_first.new.flusher c.in-Ok.ensures.upkeep)

pub loop-preserved : goal.loop-preserved
loop-preserved g c =
    upkeep_on tt (Ok tt) c.args.flusher.now c.loop.flusher c.put_first.new.flusher c.loop.invariant
    (upkeep_as c.in-Ok.more tt c.loop.flusher c.put_first.new.flusher c.in-Ok.ensures.upkeep)
