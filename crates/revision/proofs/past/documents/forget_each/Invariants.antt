use Rattle.std.proofs.Common.{◌≡◌, drop}
use Rattle.revision.specs.steps.ChangedAt.{changed_at_all}
use Rattle.revision.specs.steps.Preparing.{forgotten}
use Rattle.revision.proofs.past.documents.forget_each.Given as goal

abbrev pub invariant-loop-number : goal.invariant-loop-number
invariant-loop-number l =
    changed_at_all forgotten (drop l.number-index l.touched) l.documents.items ≡ changed_at_all forgotten l.touched l.fn.documents.items
