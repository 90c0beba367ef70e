use Rattle.std.proofs.Common.{◌∙◌, sym, arith}
use Rattle.std.proofs.lemmas.Result.{err_from_is_err_and}
use Rattle.milestone.proofs.Fields.{above_none, other_above}
use Rattle.milestone.proofs.reading.number_above.Goals as goal

pub returns-in_err-number-clause-none : goal.returns-in_err-number-clause-none
returns-in_err-number-clause-none c =
    let why = err_from_is_err_and c.from_residual.result c.from_residual.ensures.1 in
    rw why.1 (λ is. above_none c.args.low c.args.high c.args.bytes.now (c.in_err-number.ensures.none (sym why.2 ∙ is)))

pub returns-then-number-low-clause-none : goal.returns-then-number-low-clause-none
returns-then-number-low-clause-none c = λ is.
    other_above c.args.low c.args.high c.in_ok-number.number c.args.bytes.now c.in_ok-number.rest.now (omega arith) (omega arith) c.in_ok-number.ensures.found.1 (omega arith)
