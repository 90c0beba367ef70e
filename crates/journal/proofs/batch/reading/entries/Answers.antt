use Rattle.std.proofs.lemmas.Result.{err_from_is_err_and}
use Rattle.journal.proofs.Entries.{one_more, none_more, all_read}
use Rattle.journal.proofs.batch.reading.entries.Goals as goal

pub returns-in_err-taken : goal.returns-in_err-taken
returns-in_err-taken c =
    let why = err_from_is_err_and c.from_residual-in_err-taken.result c.from_residual-in_err-taken.ensures.1 in
    rw (why.1, why.2) (none_more _ _ _ _ _ c.loop.invariant c.in_err-taken.field-0.0 c.loop-test.true c.in_err-taken.ensures)

pub loop-preserved : goal.loop-preserved
loop-preserved c =
    rw c.in_ok-push.ensures.items (one_more _ _ _ _ _ c.loop.invariant c.in_ok-taken.taken c.in_ok-taken.after.now c.loop-test.true c.in_ok-taken.ensures)

pub returns : goal.returns
returns c = all_read _ _ _ _ _ c.loop.invariant c.loop-test.false
