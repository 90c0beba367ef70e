use Rattle.flusher.specs.Holding.{store_of}
use Rattle.lives.proofs.Refusing.{answer_works, answer_fails, answer_put, answer_memory, answer_only}
use Rattle.lives.proofs.driving.put_one.Goals as goal

pub returns-in-Err-clause-works : goal.returns-in-Err-clause-works
returns-in-Err-clause-works g c =
    answer_works (store_of c.put_document.new.self) c.in-Err.refusal c.answered.result c.answered.ensures.answer (c.in-Err.ensures.faults.fails c.requires.works)

pub returns-in-Err-clause-fails : goal.returns-in-Err-clause-fails
returns-in-Err-clause-fails g c =
    answer_fails (store_of c.put_document.new.self) c.in-Err.refusal c.answered.result c.answered.ensures.answer c.answered.ensures.stops (c.in-Err.ensures.faults.fails c.requires.works)

pub returns-in-Err-clause-answer : goal.returns-in-Err-clause-answer
returns-in-Err-clause-answer g c =
    answer_put (store_of c.args.flusher.now) (store_of c.put_document.new.self) c.in-Err.refusal c.args.document c.args.revision c.answered.result c.answered.ensures.answer
    c.in-Err.ensures.due.why c.in-Err.ensures.left.untouched

pub returns-in-Err-clause-only : goal.returns-in-Err-clause-only
returns-in-Err-clause-only g c = answer_only c.in-Err.refusal c.answered.result c.answered.ensures.stops

pub returns-in-Err-clause-memory : goal.returns-in-Err-clause-memory
returns-in-Err-clause-memory g c told = c.in-Err.ensures.left.memory (answer_memory c.in-Err.refusal c.answered.result c.answered.ensures.stops told)
