use Rattle.std.proofs.Common.{◌+◌, ◌-◌, take, ◌∙◌, arith}
use Rattle.revision.specs.Past.{changes_by, sources_after}
use Rattle.revision.specs.steps.PastView.{parts_of}
use Rattle.revision.proofs.Beginnings.{with_kept, newest_there, newest_noted}
use Rattle.revision.proofs.KeptDocuments.{noted-by}
use Rattle.revision.proofs.past.Past.keep_copy.Goals as goal

pub invariant_of-self : goal.invariant_of-self
invariant_of-self c =
    let parts = parts_of c.self.inside in
    let changes = changes_by parts.takers parts.deltas in
    let revision = parts.start + parts.count in
    let there = c.requires.sources ∙ newest_noted parts c.self.invariant c.args.self.now c.self.view_is revision (omega arith) in
    with_kept parts c.self.invariant c.push_kept.new.kept.items
    (c.push_kept.ensures.kept parts.start parts.count parts.units parts.deltas c.self.invariant.kept
    (omega arith, λ above. c.requires.newest ∙ newest_there parts c.self.invariant c.args.self.now c.self.view_is _ (omega arith)))
    (c.push_kept.ensures.noted parts.start parts.sources changes c.self.invariant.noted
    (λ above. noted-by c.copy_if_due-beside.result c.args.sources.now (sources_after parts.start parts.sources (take (revision - parts.start) changes)) c.copy_if_due-beside.ensures there))
