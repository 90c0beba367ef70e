use Rattle.turns.proofs.Writing.{upkeep_none, upkeep_still}
use Rattle.turns.proofs.exchange.due_job.Goals as goal

pub returns-in-None-clause-upkeep : goal.returns-in-None-clause-upkeep
returns-in-None-clause-upkeep g c = upkeep_none tt c.args.flusher.now

pub returns-in-Ok-clause-upkeep : goal.returns-in-Ok-clause-upkeep
returns-in-Ok-clause-upkeep g c =
    let e = c.milestone_job.ensures in
    upkeep_still tt c.args.flusher.now c.milestone_job.new.self e.keeps e.same.failed

pub returns-in-Err-clause-upkeep : goal.returns-in-Err-clause-upkeep
returns-in-Err-clause-upkeep g c =
    let e = c.milestone_job.ensures in
    upkeep_still tt c.args.flusher.now c.milestone_job.new.self e.keeps e.same.failed
