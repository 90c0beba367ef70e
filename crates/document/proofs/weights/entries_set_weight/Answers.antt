use Rattle.std.proofs.Common.{arith, ap, sum_by}
use Rattle.std.proofs.lemmas.List.{take_all}
use Rattle.document.specs.steps.Weighing.{set_weight}
use Rattle.document.proofs.Weighing.{sum_by-more}
use Rattle.document.proofs.weights.entries_set_weight.Goals as goal

pub loop-entry-preserved : goal.loop-entry-preserved
loop-entry-preserved c =
    let more = sum_by-more set_weight c.entries-entries.result.now c.loop-entry.entry-index c.entry-item.result c.loop-entry-test.true in
    omega (arith, more, ap set_weight c.entry-item.is, c.saturating_add-weight.ensures, c.entry_set_weight.ensures, c.loop-entry.invariant)

pub returns : goal.returns
returns c =
    let all = take_all c.loop-entry.entry-index c.entries-entries.result.now c.loop-entry-test.false in
    omega (arith, ap (sum_by set_weight) all, ap (sum_by set_weight) c.entries-entries.ensures, c.loop-entry.invariant)
