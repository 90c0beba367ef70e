use Rattle.std.proofs.Common.{◌≡◌, ◌-◌, length, get_or, ap, subst, ◌∙◌, arith}
use Rattle.delta.specs.Gaps.{counted, apply}
use Rattle.document.specs.Outcome.{IsAccepted}
use Rattle.revision.specs.Past.{Parts, Prepared, prepared_units}
use Rattle.revision.specs.steps.PastView.{parts_of}
use Rattle.revision.proofs.Parts.{last_delta}
use Rattle.revision.proofs.past.Past.prepared_delta.Goals as goal

pub returns : goal.returns
returns c =
    let parts : Parts = parts_of c.self.inside in
    let place : c.len-last.result - 1 ≡ length parts.deltas - 1 = omega (arith, c.len-last.ensures) in
    let read = c.index.ensures ∙ ap (λ n. get_or parts.deltas n c.index.result.now) place in
    let same = ap (λ (p : Prepared). p.next) c.self.view_is in
    record {
      accepted = λ before last e. subst (λ (p : Prepared). IsAccepted (prepared_units (record p { next = before })) (counted c.index.result.now)) c.self.view_is
          (last_delta parts c.self.invariant before last (same ∙ e) c.index.result.now read).0;
      leads = λ before last e. subst (λ (p : Prepared). apply (prepared_units (record p { next = before })) (counted c.index.result.now) ≡ prepared_units p) c.self.view_is
          (last_delta parts c.self.invariant before last (same ∙ e) c.index.result.now read).1;
    }
