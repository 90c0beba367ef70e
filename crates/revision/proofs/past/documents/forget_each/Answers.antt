use Rattle.std.proofs.Common.{◌∙◌}
use Rattle.revision.specs.steps.Preparing.{forgotten}
use Rattle.revision.proofs.ChangedAt.{changed_at_all-step}
use Rattle.revision.proofs.past.documents.forget_each.Goals as goal

pub loop-number-preserved : goal.loop-number-preserved
loop-number-preserved c =
    changed_at_all-step forgotten c.args.touched.now c.loop-number.number-index 0 _ _ c.loop-number-test.true c.forget_one.ensures ∙ c.loop-number.invariant
