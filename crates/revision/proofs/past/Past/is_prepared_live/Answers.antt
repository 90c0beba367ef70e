use Rattle.std.proofs.Common.{◌≡◌, true, List, drop, sym, ap, subst, ◌∙◌}
use Rattle.revision.specs.declared.rule.taker.Taker.{Taker}
use Rattle.revision.specs.Past.{Parts, Prepared, is_content, prepared_content}
use Rattle.revision.specs.steps.PastView.{parts_of}
use Rattle.revision.specs.steps.Turning.{live_by_last}
use Rattle.revision.proofs.FromBase.{slice-from}
use Rattle.revision.proofs.Parts.{prepared-by-last, prepared-is-content}
use Rattle.revision.proofs.past.Past.is_prepared_live.Goals as goal

pub returns-clause-live : goal.returns-clause-live
returns-clause-live c =
    let parts : Parts = parts_of c.self.inside in
    let added = slice-from parts.count c.as_slice.result.now ∙ ap (λ (l : List Taker). drop parts.count l) c.as_slice.ensures.value in
    c.live_by_last.ensures
    ∙ (ap (live_by_last parts.live) added
    ∙ (sym (prepared-by-last parts c.self.invariant) ∙ ap (λ (p : Prepared). (prepared_content p).live) c.self.view_is))

pub returns-clause-content : goal.returns-clause-content
returns-clause-content c =
    let parts : Parts = parts_of c.self.inside in
    subst (λ (p : Prepared). is_content (prepared_content p) ≡ true) c.self.view_is (prepared-is-content parts c.self.invariant)
