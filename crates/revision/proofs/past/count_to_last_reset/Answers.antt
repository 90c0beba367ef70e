use Rattle.std.proofs.Common.{◌≡◌, ◌-◌, ℕ, suc, true, false, take, sym, ap, ◌∙◌, arith}
use Rattle.revision.specs.declared.rule.taker.Taker.{Taker}
use Rattle.revision.specs.Command.{edits}
use Rattle.revision.specs.steps.Turning.{steps_to_last_reset}
use Rattle.revision.proofs.Turning.{turn-edits, turn-here}
use Rattle.revision.proofs.past.count_to_last_reset.Goals as goal

pub loop-count-preserved : goal.loop-count-preserved
loop-count-preserved c =
    let n : ℕ = c.loop-count.count - 1 in
    let takers = c.args.takers.now in
    let whole : suc n ≡ c.loop-count.count = omega (arith, c.loop-count-test.true) in
    let edit : edits c.index-takers-count.result.step ≡ true = ap (λ (t : Taker). edits t.step) c.index-takers-count.is ∙ sym c.edits.ensures ∙ c.if-edits.true in
    record {
      within = omega (arith, c.loop-count.invariant.within);
      same = sym (turn-edits n takers c.index-takers-count.result (omega (arith, c.loop-count.invariant.within, c.loop-count-test.true)) c.index-takers-count.is edit)
          ∙ (ap (λ m. steps_to_last_reset (take m takers)) whole ∙ c.loop-count.invariant.same);
    }

pub returns-else-edits : goal.returns-else-edits
returns-else-edits c =
    let n : ℕ = c.loop-count.count - 1 in
    let takers = c.args.takers.now in
    let whole : suc n ≡ c.loop-count.count = omega (arith, c.loop-count-test.true) in
    let other : edits c.index-takers-count.result.step ≡ false = ap (λ (t : Taker). edits t.step) c.index-takers-count.is ∙ sym c.edits.ensures ∙ c.if-edits.false in
    sym (sym c.loop-count.invariant.same
    ∙ (ap (λ m. steps_to_last_reset (take m takers)) (sym whole)
    ∙ (turn-here n takers c.index-takers-count.result (omega (arith, c.loop-count.invariant.within, c.loop-count-test.true)) c.index-takers-count.is other ∙ whole)))
