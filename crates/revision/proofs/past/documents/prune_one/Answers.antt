use Rattle.std.proofs.Common.{◌∙◌, arith}
use Rattle.revision.specs.Pending.{PendingDocument}
use Rattle.revision.proofs.ChangedAt.{set-changed, changed_at-same}
use Rattle.revision.proofs.past.documents.prune_one.Goals as goal

pub returns-then-number-len : goal.returns-then-number-len
returns-then-number-len c =
    set-changed (λ (d : PendingDocument). d) _ c.args.number _ _ (omega (arith, c.if-number-len.true, c.len.ensures)) c.index_mut.ensures.value c.prune.ensures
    ∙ changed_at-same c.args.number _
