use Rattle.std.proofs.Common.{arith, ap, sum_by}
use Rattle.std.proofs.lemmas.List.{take_all}
use Rattle.document.specs.steps.Weighing.{kept_weight}
use Rattle.document.proofs.Weighing.{sum_by-more}
use Rattle.document.proofs.weights.entries_kept_weight.Goals as goal

pub loop-entry-preserved : goal.loop-entry-preserved
loop-entry-preserved c =
    let more = sum_by-more (kept_weight c.args.change.now) c.entries-entries.result.now c.loop-entry.entry-index c.entry-item.result c.loop-entry-test.true in
    omega (arith, more, ap (kept_weight c.args.change.now) c.entry-item.is, c.saturating_add-weight.ensures, c.entry_kept_weight.ensures, c.loop-entry.invariant)

pub returns : goal.returns
returns c =
    let all = take_all c.loop-entry.entry-index c.entries-entries.result.now c.loop-entry-test.false in
    omega (arith, ap (sum_by (kept_weight c.args.change.now)) all, ap (sum_by (kept_weight c.args.change.now)) c.entries-entries.ensures, c.loop-entry.invariant)
