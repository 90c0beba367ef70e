use Rattle.std.proofs.Common.{◌≡◌, ◌-◌, ◌∙◌, sym, ap, take, drop, length, length-drop, arith}
use Rattle.std.proofs.lemmas.List.{take_all}
use Rattle.journal.specs.steps.DeltaReading.{begins_normal}
use Rattle.journal.proofs.NormalForms.{normal_more}
use Rattle.journal.proofs.batch.reading.normal_form.has_normal_form.Goals as goal

pub loop-i-preserved : goal.loop-i-preserved
loop-i-preserved c =
    let ops = c.args.ops.now in
    let i = c.loop-i.i in
    let whole : take (length ops - i) (drop i ops) ≡ drop i ops = take_all _ _ (omega (arith, length-drop i ops)) in
    normal_more ops i _ c.loop-i-test.true c.loop-i.invariant
    (ap begins_normal (sym whole) ∙ sym c.begins_normal_form.ensures ∙ c.if-not-begins_normal_form.false)
