use Rattle.std.proofs.Common.{◌≡◌, ◌<◌, ◌^◌, true, subst}
use Rattle.revision.specs.Past.{Parts, Prepared, is_content, newest, prepared_content}
use Rattle.revision.specs.steps.PastView.{parts_of}
use Rattle.revision.proofs.Parts.{prepared-is-content, newest-bound}
use Rattle.revision.proofs.past.Past.facts.Goals as goal

pub returns-clause-content : goal.returns-clause-content
returns-clause-content c =
    let parts : Parts = parts_of c.self.inside in
    subst (λ (p : Prepared). is_content (prepared_content p) ≡ true) c.self.view_is (prepared-is-content parts c.self.invariant)

pub returns-clause-bound : goal.returns-clause-bound
returns-clause-bound c =
    let parts : Parts = parts_of c.self.inside in
    subst (λ (p : Prepared). newest p.past < 2 ^ 53) c.self.view_is (newest-bound parts c.self.invariant)
