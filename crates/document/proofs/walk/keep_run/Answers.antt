use Rattle.std.proofs.Common.{◌∙◌, ◌++◌, ap, sym}
use Rattle.attributes.specs.Attributes.{changed, same_attributes-Decides}
use Rattle.document.specs.steps.Passes.{with_change}
use Rattle.document.specs.Pieces.{piece_dressed}
use Rattle.document.specs.Runs.{units_of_runs}
use Rattle.document.proofs.Measured.{dressed_itself}
use Rattle.document.proofs.Passing.{kept-piece}
use Rattle.document.proofs.walk.keep_run.Goals as goal

pub returns-then-eq-clause-units : goal.returns-then-eq-clause-units
returns-then-eq-clause-units c =
    let out = units_of_runs c.args.out.now in
    let by_change = c.in_ok-attrs.ensures.value ∙ ap (λ a. changed a c.args.change.now) c.attrs.ensures in
    let same = (same_attributes-Decides _ _).0 (sym c.if-eq.ensures) in
    let unchanged = sym c.attrs-3.ensures ∙ (sym same ∙ by_change) in
    c.in_ok-put_run.ensures.ok
    ∙ ap (λ l. out ++ l)
    (sym c.piece-piece.ensures.units
    ∙ (sym (dressed_itself c.piece-piece.result)
    ∙ (ap (piece_dressed c.piece-piece.result) unchanged
    ∙ (sym (kept-piece c.args.change.now c.piece-piece.result) ∙ ap (with_change c.args.change.now) c.piece-piece.ensures.units))))

pub returns-clause-units : goal.returns-clause-units
returns-clause-units c =
    let out = units_of_runs c.args.out.now in
    let by_change = c.in_ok-attrs.ensures.value ∙ ap (λ a. changed a c.args.change.now) c.attrs.ensures in
    c.in_ok-put.ensures.units
    ∙ ap (λ l. out ++ l)
    (ap (piece_dressed c.piece-piece.result) by_change
    ∙ (sym (kept-piece c.args.change.now c.piece-piece.result) ∙ ap (with_change c.args.change.now) c.piece-piece.ensures.units))
