use Rattle.std.proofs.lemmas.Result.{err_from_is_err_and}
use Rattle.std.proofs.Common.{rules}
use Rattle.journal.proofs.ReadingOn.{pairs-one_more, pairs-none_more, pairs-all_read}
use Rattle.journal.proofs.batch.reading.pairs.change_pairs.Goals as goal

pub returns-in_err-name : goal.returns-in_err-name
returns-in_err-name c =
    let why = err_from_is_err_and c.from_residual.result c.from_residual.ensures.1 in
    rw (why.1, why.2) (pairs-none_more _ _ _ _ _ _ _ c.loop.invariant.read c.in_err-name.field-0.0 c.loop-test.true c.in_err-name.ensures.read)

pub returns : goal.returns
returns c = pairs-all_read _ _ _ _ _ _ _ c.loop.invariant.read c.loop-test.false

pub loop-preserved : goal.loop-preserved
loop-preserved c = record {
  text = search rules;
  read = rw c.in_ok-set_change.ensures.ok (pairs-one_more _ _ _ _ _ _ _ c.loop.invariant.read c.in_ok-name.name.now c.in_ok-name.value c.in_ok-name.after.now c.loop-test.true c.in_ok-name.ensures.read);
}
