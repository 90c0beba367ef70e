use Rattle.std.proofs.Common.{sym, ap, ◌∙◌}
use Rattle.revision.specs.Past.{Prepared, newest}
use Rattle.revision.specs.steps.PastView.{parts_of}
use Rattle.revision.proofs.Parts.{seen-newest}
use Rattle.revision.proofs.past.Past.revision.Goals as goal

pub returns-clause-revision : goal.returns-clause-revision
returns-clause-revision c =
    sym (seen-newest (parts_of c.self.inside) c.self.invariant) ∙ ap (λ (p : Prepared). newest p.past) c.self.view_is
