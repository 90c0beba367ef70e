use Rattle.std.proofs.Common.{arith}
use Rattle.revision.specs.steps.Preparing.{forgotten}
use Rattle.revision.proofs.ChangedAt.{set-changed, changed_at-past}
use Rattle.revision.proofs.past.documents.forget_one.Goals as goal

pub returns-then-number-len : goal.returns-then-number-len
returns-then-number-len c =
    set-changed forgotten _ c.args.number _ _ (omega (arith, c.if-number-len.true, c.len.ensures)) c.index_mut.ensures.value c.forget.ensures

pub returns-else-number-len : goal.returns-else-number-len
returns-else-number-len c = changed_at-past forgotten _ c.args.number (omega (arith, c.if-number-len.false, c.len.ensures))
