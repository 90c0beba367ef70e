use Rattle.std.proofs.Common.{◌≡◌, List, sym, ap, subst, ◌∙◌}
use Rattle.delta.specs.Element.{Element}
use Rattle.std.specs.Prelude.{OnOk}
use Rattle.delta.specs.Gaps.{counted, apply}
use Rattle.document.specs.Outcome.{IsAccepted}
use Rattle.revision.specs.Past.{Content, Prepared, Next, next_by, units_after, prepared_units}
use Rattle.revision.proofs.Following.{content-more}
use Rattle.revision.proofs.Turning.{own-after}
use Rattle.revision.proofs.past.noting.note_on.Goals as goal

pub prepare_with-noted-requires-clause-accepted : goal.prepare_with-noted-requires-clause-accepted
prepare_with-noted-requires-clause-accepted c =
    let change = c.args.change in
    let one : Next = next_by change.source change.number change.step change.delta in
    let added = ap (λ (p : Prepared). p.next) c.in_ok-source.ensures.past in
    let same = ap (λ (p : Prepared). record p { next = c.args.past.now.next }) c.in_ok-source.ensures.past in
    subst (λ (u : List Element). IsAccepted u (counted c.prepared_delta.result.now)) (ap prepared_units same ∙ sym c.requires.next)
    (c.prepared_delta.ensures.accepted c.args.past.now.next one added)

pub returns-clause-next : goal.returns-clause-next
returns-clause-next c =
    let change = c.args.change in
    let old = c.args.past.now in
    let one : Next = next_by change.source change.number change.step change.delta in
    let added = ap (λ (p : Prepared). p.next) c.in_ok-source.ensures.past in
    let same = ap (λ (p : Prepared). record p { next = old.next }) c.in_ok-source.ensures.past in
    subst (λ (u : List Element). OnOk c.prepare_with-noted.result (c.prepare_with-noted.new.document ≡ u))
    (ap (λ (u : List Element). apply u (counted c.prepared_delta.result.now)) (c.requires.next ∙ sym (ap prepared_units same))
    ∙ (c.prepared_delta.ensures.leads old.next one added
    ∙ (ap prepared_units c.in_ok-source.ensures.past
    ∙ (ap (λ (x : Content). x.units) (content-more old one)
    ∙ (own-after (prepared_units old) change.step change.delta ∙ ap (λ (u : List Element). units_after u change.step change.delta) (sym c.requires.next))))))
    c.prepare_with-noted.ensures.document
