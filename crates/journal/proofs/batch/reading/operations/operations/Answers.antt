use Rattle.std.proofs.lemmas.Result.{err_from_is_err_and}
use Rattle.journal.proofs.ReadingOn.{operations-one_more, operations-none_more, operations-all_read}
use Rattle.journal.proofs.batch.reading.operations.operations.Goals as goal

pub returns-in_err-op : goal.returns-in_err-op
returns-in_err-op c =
    let why = err_from_is_err_and c.from_residual-in_err-op.result c.from_residual-in_err-op.ensures.1 in
    rw (why.1, why.2) (operations-none_more _ _ _ _ _ c.loop.invariant c.in_err-op.field-0.0 c.loop-test.true c.in_err-op.ensures)

pub loop-preserved : goal.loop-preserved
loop-preserved c =
    rw c.in_ok-push.ensures.items (operations-one_more _ _ _ _ _ c.loop.invariant c.in_ok-op.op c.in_ok-op.after.now c.loop-test.true c.in_ok-op.ensures)

pub returns : goal.returns
returns c = operations-all_read _ _ _ _ _ c.loop.invariant c.loop-test.false
