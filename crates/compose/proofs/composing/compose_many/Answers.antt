use Rattle.std.proofs.Common.{List, ◌∙◌, ◌+◌, drop, sym, ap, subst}
use Rattle.std.proofs.Math.ListN.{drop_of_length-le}
use Rattle.std.proofs.lemmas.Result.{err_from_is_err_and}
use Rattle.refusal.specs.declared.Refusal.TheVariants.{BadOps}
use Rattle.delta.specs.Operation.{Operation}
use Rattle.compose.specs.Many.{many_after, ComposesAll}
use Rattle.compose.specs.Whole.{IsWhole}
use Rattle.compose.specs.Outcome.{IsComposeRefused}
use Rattle.compose.proofs.ManyDeltas.{AreComposed, drop-here, composes_all, whole_all, composed-step, composed-refused, long-many, wants_memory}
use Rattle.compose.proofs.Outcomes.{handed_on, refused_so, each_err}
use Rattle.compose.proofs.composing.compose_many.Goals as goal

pub returns-in_err-one-clause-long : goal.returns-in_err-one-clause-long
returns-in_err-one-clause-long c =
    λ bad.
    let here = drop-here c.args.deltas.now c.loop-delta.delta-index c.delta-item.result c.loop-delta-test.true c.delta-item.is in
    let p = err_from_is_err_and c.from_residual.result c.from_residual.ensures.1 in
    let refused = handed_on (IsComposeRefused c.loop-delta.one c.delta-item.result) c.from_residual.result p.0 c.in_err-one.field-0.0 p.1 p.2 c.in_err-one.ensures.only in
    long-many c.args.deltas.now c.loop-delta.one c.delta-item.result (drop (c.loop-delta.delta-index + 1) c.args.deltas.now)
    (subst (λ (l : List (List Operation)). AreComposed c.args.deltas.now c.loop-delta.one l) here c.loop-delta.invariant)
    (refused_so (IsComposeRefused c.loop-delta.one c.delta-item.result) c.from_residual.result BadOps bad refused)

pub returns-in_err-one-clause-memory : goal.returns-in_err-one-clause-memory
returns-in_err-one-clause-memory c =
    let here = drop-here c.args.deltas.now c.loop-delta.delta-index c.delta-item.result c.loop-delta-test.true c.delta-item.is in
    let p = err_from_is_err_and c.from_residual.result c.from_residual.ensures.1 in
    let refused = handed_on (IsComposeRefused c.loop-delta.one c.delta-item.result) c.from_residual.result p.0 c.in_err-one.field-0.0 p.1 p.2 c.in_err-one.ensures.only in
    each_err c.from_residual.result (λ e is_err here_refused.
    wants_memory c.args.deltas.now e
    (composed-refused c.args.deltas.now c.loop-delta.one c.delta-item.result (drop (c.loop-delta.delta-index + 1) c.args.deltas.now) e
    (subst (λ (l : List (List Operation)). AreComposed c.args.deltas.now c.loop-delta.one l) here c.loop-delta.invariant) here_refused)) refused

pub loop-delta-preserved : goal.loop-delta-preserved
loop-delta-preserved c =
    let here = drop-here c.args.deltas.now c.loop-delta.delta-index c.delta-item.result c.loop-delta-test.true c.delta-item.is in
    composed-step c.args.deltas.now c.loop-delta.one c.delta-item.result c.in_ok-one.one (drop (c.loop-delta.delta-index + 1) c.args.deltas.now)
    (subst (λ (l : List (List Operation)). AreComposed c.args.deltas.now c.loop-delta.one l) here c.loop-delta.invariant)
    c.in_ok-one.ensures.one c.in_ok-one.ensures.accepted

pub returns-clause-composes : goal.returns-clause-composes
returns-clause-composes c =
    subst (λ o. ComposesAll o c.args.deltas.now)
    (sym (ap (many_after c.loop-delta.one) (sym (drop_of_length-le c.args.deltas.now c.loop-delta-test.false)) ∙ c.loop-delta.invariant.same))
    (composes_all c.args.deltas.now)

pub returns-clause-whole : goal.returns-clause-whole
returns-clause-whole c =
    subst (λ o. IsWhole o c.args.deltas.now)
    (sym (ap (many_after c.loop-delta.one) (sym (drop_of_length-le c.args.deltas.now c.loop-delta-test.false)) ∙ c.loop-delta.invariant.same))
    (whole_all c.args.deltas.now)
