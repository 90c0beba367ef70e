use Rattle.std.proofs.Common.{◌≡◌, true, false, sym, ap, subst, ◌∙◌}
use Rattle.std.specs.Prelude.{OnOk, OnErr}
use Rattle.revision.specs.Command.{deletes}
use Rattle.revision.specs.State.{stands_on}
use Rattle.revision.proofs.Light.{weighed-ok, weighed-err, stands-change}
use Rattle.revision.proofs.past.following.weigh_after.Goals as goal

pub returns-clause-stands : goal.returns-clause-stands
returns-clause-stands c =
    let taken = c.args.taken.now in
    let units = c.args.document.now in
    let other : deletes taken.step ≡ false = ap deletes (sym c.step.ensures.step) ∙ (sym c.deletes.ensures ∙ c.if-deletes.false) in
    subst (λ b. OnOk c.weigh.result (b ≡ true)) (ap (λ d. stands_on d units) c.delta.ensures.delta ∙ sym (stands-change taken.step taken.delta units other c.requires.blank))
    (weighed-ok c.delta.result.now units c.weigh.result c.weigh.ensures.past_end c.weigh.ensures.cuts)

pub returns-clause-err : goal.returns-clause-err
returns-clause-err c =
    let taken = c.args.taken.now in
    let units = c.args.document.now in
    let other : deletes taken.step ≡ false = ap deletes (sym c.step.ensures.step) ∙ (sym c.deletes.ensures ∙ c.if-deletes.false) in
    subst (λ b. OnErr c.weigh.result (b ≡ false)) (ap (λ d. stands_on d units) c.delta.ensures.delta ∙ sym (stands-change taken.step taken.delta units other c.requires.blank))
    (weighed-err c.delta.result.now units c.weigh.result c.weigh.ensures.past_end c.weigh.ensures.cuts c.weigh.ensures.only)
