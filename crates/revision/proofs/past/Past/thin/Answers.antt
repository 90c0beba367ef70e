use Rattle.std.proofs.Common.{sym, subst}
use Rattle.revision.specs.Past.{AreKept, AreNoted, changes_by}
use Rattle.revision.specs.steps.PastView.{parts_of}
use Rattle.revision.proofs.Beginnings.{with_kept}
use Rattle.revision.proofs.KeptDocuments.{kept-removed, noted-removed}
use Rattle.revision.proofs.past.Past.thin.Goals as goal

pub invariant_of-self : goal.invariant_of-self
invariant_of-self c =
    let parts = parts_of c.self.inside in
    let changes = changes_by parts.takers parts.deltas in
    let place = c.in-Some.place in
    with_kept parts c.self.invariant c.remove.new.self.items
    (subst (AreKept parts.start parts.count parts.units parts.deltas) (sym c.remove.ensures.items)
    (kept-removed parts.start parts.count parts.units parts.deltas parts.kept place c.self.invariant.kept))
    (subst (AreNoted parts.start parts.sources changes) (sym c.remove.ensures.items)
    (noted-removed parts.start parts.sources changes parts.kept place c.self.invariant.noted))
