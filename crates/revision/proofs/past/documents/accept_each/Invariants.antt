use Rattle.std.proofs.Common.{◌≡◌, drop}
use Rattle.revision.specs.steps.ChangedAt.{changed_at_all}
use Rattle.revision.specs.steps.Preparing.{accepted}
use Rattle.revision.proofs.past.documents.accept_each.Given as goal

abbrev pub invariant-loop-number : goal.invariant-loop-number
invariant-loop-number l =
    changed_at_all (accepted l.limits.keep) (drop l.number-index l.touched) l.documents.items
    ≡ changed_at_all (accepted l.limits.keep) l.touched l.fn.documents.items
