use Rattle.std.proofs.Common.{◌≡◌, ◌⊎◌, ⊎_elim, Bool, List, Err, sym, ap, subst, ◌∙◌}
use Rattle.std.proofs.lemmas.Result.{err_from_is_err_and}
use Rattle.refusal.specs.declared.Refusal.{Refusal}
use Rattle.refusal.specs.declared.Refusal.TheVariants.{BadOps, NoMemory}
use Rattle.delta.specs.Operation.{Operation, IsBounded}
use Rattle.xform.specs.Outcome.{CanTransform, IsTransformRefused}
use Rattle.xform.proofs.Partly.{partly-start, second_as, partly-next, passed-next, long-next, partly-end}
use Rattle.xform.proofs.transforming.transform.Goals as goal

pub loop-part-init : goal.loop-part-init
loop-part-init c =
    rw (c.new-one.ensures, c.new-two.ensures, c.ops.ensures.ops, c.ops-2.ensures.ops, c.new-out.ensures)
    (partly-start c.args.first.now c.args.second.now c.args.priority c.ops.ensures.normal c.ops-2.ensures.normal c.ops.ensures.bounded c.ops-2.ensures.bounded)

refused : (first second : List Operation) (priority : Bool) (e : Refusal) → (e ≡ BadOps) ⊎ (e ≡ NoMemory) → (e ≡ BadOps → ¬ (CanTransform first second priority)) → IsTransformRefused first second priority e
refused first second priority e only bad =
    ⊎_elim
    (λ is. subst (IsTransformRefused first second priority) (sym is) (bad is))
    (λ (is : e ≡ NoMemory). subst (IsTransformRefused first second priority) (sym is) tt)
    only

pub returns-in_err-push_made-clause-only : goal.returns-in_err-push_made-clause-only
returns-in_err-push_made-clause-only c =
    let p = err_from_is_err_and c.from_residual-in_err-push_made.result c.from_residual-in_err-push_made.ensures.1 in
    rw (p.1, p.2)
    (refused c.args.first.now c.args.second.now c.args.priority c.in_err-push_made.field-0.0 c.in_err-push_made.ensures.only
    (λ is. passed-next (second_as c.in-Some.ensures c.loop-part.invariant) c.in_ok-step.ensures.step (c.in_err-push_made.ensures.bad (ap Err is))))

pub returns-in_err-push_made-clause-long : goal.returns-in_err-push_made-clause-long
returns-in_err-push_made-clause-long c =
    let p = err_from_is_err_and c.from_residual-in_err-push_made.result c.from_residual-in_err-push_made.ensures.1 in
    λ is. long-next (second_as c.in-Some.ensures c.loop-part.invariant) c.in_ok-step.ensures.step (c.in_err-push_made.ensures.bad (cc))

pub loop-part-preserved : goal.loop-part-preserved
loop-part-preserved c = partly-next (second_as c.in-Some.ensures c.loop-part.invariant) c.in_ok-step.ensures.step c.push_made.new.out c.in_ok-push_made.ensures.ok

pub returns-clause-delta : goal.returns-clause-delta
returns-clause-delta c = c.finish.ensures.delta ∙ partly-end c.loop-part.invariant c.in_default.ensures

pub returns-clause-accepted : goal.returns-clause-accepted
returns-clause-accepted c =
    subst IsBounded (c.finish.ensures.delta ∙ partly-end c.loop-part.invariant c.in_default.ensures) c.finish.ensures.bounded
