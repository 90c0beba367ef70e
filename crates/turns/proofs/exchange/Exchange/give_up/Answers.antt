use Rattle.turns.proofs.Writing.{upkeep_still}
use Rattle.turns.proofs.exchange.Exchange.give_up.Goals as goal

pub returns-clause-upkeep : goal.returns-clause-upkeep
returns-clause-upkeep g c =
    let e = c.give_up_job.ensures in
    upkeep_still tt c.args.flusher.now c.give_up_job.new.self e.keeps e.same.failed
