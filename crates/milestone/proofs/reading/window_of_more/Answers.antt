use Rattle.std.proofs.Common.{◌∙◌, sym, length, arith}
use Rattle.std.proofs.lemmas.Result.{err_from_is_err_and}
use Rattle.milestone.proofs.Windows.{no_number, behind_more, count_is, behind_count, read_more}
use Rattle.milestone.specs.CellSpelling.{Two}
use Rattle.milestone.proofs.reading.window_of_more.Goals as goal

pub returns-in_err-number-clause-none : goal.returns-in_err-number-clause-none
returns-in_err-number-clause-none c =
    let why = err_from_is_err_and c.from_residual.result c.from_residual.ensures.1 in
    rw why.1 (λ is. no_number Two c.args.revision c.args.bytes.now (c.in_err-number.ensures.none (sym why.2 ∙ is)))

pub returns-in_err-count-clause-none : goal.returns-in_err-count-clause-none
returns-in_err-count-clause-none c =
    let why = err_from_is_err_and c.from_residual-in_err-count.result c.from_residual-in_err-count.ensures.1 in
    rw why.1 (λ is w more is_w spelled.
    let behind = behind_more c.args.revision c.args.bytes.now c.in_ok-number.rest.now c.in_ok-number.number (omega (arith, c.in_ok-number.ensures.found.0.1)) c.in_ok-number.ensures.found.1 w more is_w spelled in
    c.in_err-count.ensures.none (sym why.2 ∙ is) (length w.revisions) _ (count_is c.args.revision c.in_ok-number.number w is_w behind.0) behind.1)

pub returns-in_err-window-clause-none : goal.returns-in_err-window-clause-none
returns-in_err-window-clause-none c =
    let why = err_from_is_err_and c.from_residual-in_err-window.result c.from_residual-in_err-window.ensures.1 in
    rw why.1 (λ is w more is_w spelled.
    let behind = behind_more c.args.revision c.args.bytes.now c.in_ok-number.rest.now c.in_ok-number.number (omega (arith, c.in_ok-number.ensures.found.0.1)) c.in_ok-number.ensures.found.1 w more is_w spelled in
    let counted = behind_count c.args.revision c.in_ok-count.count c.in_ok-number.rest.now c.in_ok-count.rest.now more w is_w c.in_ok-count.ensures.found.1 behind.1 in
    c.in_err-window.ensures.none (sym why.2 ∙ is) w.revisions more counted.0 counted.1)

pub returns-clause-found : goal.returns-clause-found
returns-clause-found c =
    read_more c.args.revision c.in_ok-number.number c.in_ok-count.count c.in_ok-window.window c.args.bytes.now c.in_ok-number.rest.now c.in_ok-count.rest.now c.in_ok-window.rest.now
    c.in_ok-number.ensures.found.0 c.in_ok-count.ensures.found.0 c.in_ok-window.ensures.number c.in_ok-window.ensures.found.0
    c.in_ok-number.ensures.found.1 c.in_ok-count.ensures.found.1 c.in_ok-window.ensures.found.1
