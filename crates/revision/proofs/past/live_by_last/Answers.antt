use Rattle.std.proofs.Common.{◌-◌, ℕ, length, sym, ap, ◌∙◌, arith}
use Rattle.revision.specs.declared.rule.taker.Taker.{Taker}
use Rattle.revision.specs.steps.Turning.{leaves_live}
use Rattle.revision.proofs.Turning.{last-decides}
use Rattle.revision.proofs.past.live_by_last.Goals as goal

pub returns-else-count-eq0 : goal.returns-else-count-eq0
returns-else-count-eq0 c =
    let takers = c.args.takers.now in
    let last : ℕ = length takers - 1 in
    c.leaves_live.ensures
    ∙ (ap (λ (t : Taker). leaves_live t.step) (sym c.index-takers-count.is)
    ∙ sym (last-decides c.args.live takers last c.index-takers-count.result (omega (arith, c.if-count-eq0.false)) c.index-takers-count.is))
