use Rattle.std.proofs.Common.{◌≡◌, ◌∙◌, ◌++◌, sym, subst, arith}
use Rattle.std.proofs.lemmas.Result.{err_from_is_err_and}
use Rattle.revision.specs.Window.{Window, last_revision}
use Rattle.milestone.proofs.Windows.{no_number, of_one, behind_one, read_one}
use Rattle.milestone.specs.CellSpelling.{One, window}
use Rattle.milestone.specs.steps.Reading.{IsWindowIn}
use Rattle.milestone.proofs.reading.window_of_one.Goals as goal

pub returns-in_err-number-clause-none : goal.returns-in_err-number-clause-none
returns-in_err-number-clause-none c =
    let why = err_from_is_err_and c.from_residual.result c.from_residual.ensures.1 in
    rw why.1 (λ is. no_number One c.args.revision c.args.bytes.now (c.in_err-number.ensures.none (sym why.2 ∙ is)))

pub returns-in_err-made-clause-none : goal.returns-in_err-made-clause-none
returns-in_err-made-clause-none c =
    let why = err_from_is_err_and c.from_residual-in_err-made.result c.from_residual-in_err-made.ensures.1 in
    rw why.1 (λ is w more is_w spelled.
    let behind = behind_one c.args.revision c.args.bytes.now c.in_ok-number.rest.now c.in_ok-number.number (omega (arith, c.in_ok-number.ensures.found.0.1)) c.in_ok-number.ensures.found.1 w more is_w spelled in
    c.in_err-made.ensures.none (sym why.2 ∙ is) (last_revision w) more (of_one c.args.revision w is_w).revised behind.1)

pub returns-clause-found : goal.returns-clause-found
returns-clause-found c =
    subst (λ (w : Window). IsWindowIn One c.args.revision w × (c.args.bytes.now ≡ window One w ++ c.in_ok-made.rest.now)) (sym c.of_one.ensures)
    (read_one c.args.revision c.in_ok-number.number c.in_ok-made.made c.args.bytes.now c.in_ok-number.rest.now c.in_ok-made.rest.now
    c.in_ok-number.ensures.found.0 c.in_ok-made.ensures.found.0 c.in_ok-number.ensures.found.1 c.in_ok-made.ensures.found.1)
