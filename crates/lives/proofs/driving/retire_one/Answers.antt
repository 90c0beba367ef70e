use Rattle.flusher.specs.Holding.{store_of}
use Rattle.lives.proofs.Refusing.{answer_works, answer_fails, answer_retired, answer_fault}
use Rattle.lives.proofs.driving.retire_one.Goals as goal

pub returns-in-Err-clause-works : goal.returns-in-Err-clause-works
returns-in-Err-clause-works g c =
    answer_works (store_of c.retire.new.self) c.in-Err.refusal c.answered.result c.answered.ensures.answer (c.in-Err.ensures.faults.fails c.requires.works)

pub returns-in-Err-clause-fails : goal.returns-in-Err-clause-fails
returns-in-Err-clause-fails g c =
    answer_fails (store_of c.retire.new.self) c.in-Err.refusal c.answered.result c.answered.ensures.answer c.answered.ensures.stops (c.in-Err.ensures.faults.fails c.requires.works)

pub returns-in-Err-clause-answer : goal.returns-in-Err-clause-answer
returns-in-Err-clause-answer g c =
    answer_retired (store_of c.args.flusher.now) (store_of c.retire.new.self) c.in-Err.refusal c.answered.result c.answered.ensures.answer c.in-Err.ensures.needed c.in-Err.ensures.untouched

pub returns-in-Err-clause-only : goal.returns-in-Err-clause-only
returns-in-Err-clause-only g c = answer_fault c.in-Err.refusal c.answered.result c.answered.ensures.stops c.in-Err.ensures.only
