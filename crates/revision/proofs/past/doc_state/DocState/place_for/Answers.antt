use Rattle.std.proofs.Common.{◌≡◌, true, false, sym, ap, ap₂, ◌∙◌}
use Rattle.std.specs.Prelude.{◌&&◌}
use Rattle.revision.specs.Sources.{Sources}
use Rattle.revision.specs.Past.{suits, prepared_content, prepared_units, prepared_revision}
use Rattle.revision.specs.State.{follows, comes_next, keeps}
use Rattle.revision.specs.Pending.{PendingDocument, with_prepared, prepared_sources}
use Rattle.revision.proofs.Following.{follows_prepared}
use Rattle.revision.proofs.past.doc_state.DocState.place_for.Goals as goal

pub returns-then-not-suits : goal.returns-then-not-suits
returns-then-not-suits c =
    let limits = c.args.limits in
    let taken = c.args.taken.now in
    let past = c.self.inside.past in
    let d : PendingDocument = record { name = c.self.inside.name; past = past } in
    let other : suits (prepared_content past).live taken.step ≡ false =
    sym (ap₂ suits c.is_prepared_live.ensures.live c.step.ensures.step) ∙ (sym c.suits.ensures ∙ c.if-not-suits.true) in
    ap (λ b. b && comes_next limits (prepared_revision past) (prepared_sources past) taken && keeps limits (prepared_units past) (prepared_sources past) taken) (sym other)
    ∙ sym (follows_prepared limits d taken) ∙ ap (λ (e : PendingDocument). follows limits (with_prepared limits.keep e) taken) c.self.view_is

pub returns : goal.returns
returns c =
    let limits = c.args.limits in
    let taken = c.args.taken.now in
    let past = c.self.inside.past in
    let d : PendingDocument = record { name = c.self.inside.name; past = past } in
    let suit : suits (prepared_content past).live taken.step ≡ true =
    sym (ap₂ suits c.is_prepared_live.ensures.live c.step.ensures.step) ∙ (sym c.suits.ensures ∙ c.if-not-suits.false) in
    let sources : c.prepared.result.now ≡ prepared_sources past = c.prepared.ensures ∙ c.self.invariant.prepared in
    let units : c.ahead.result.now ≡ prepared_units past = c.ahead.ensures ∙ ap (λ (e : PendingDocument). prepared_units e.past) (sym c.self.view_is) in
    c.follows_at.ensures
    ∙ ap (λ r. comes_next limits r c.prepared.result.now taken && keeps limits c.ahead.result.now c.prepared.result.now taken) c.prepared_revision-revision.ensures.revision
    ∙ ap₂ (λ u (s : Sources). comes_next limits (prepared_revision past) s taken && keeps limits u s taken) units sources
    ∙ ap (λ b. b && comes_next limits (prepared_revision past) (prepared_sources past) taken && keeps limits (prepared_units past) (prepared_sources past) taken) (sym suit)
    ∙ sym (follows_prepared limits d taken) ∙ ap (λ (e : PendingDocument). follows limits (with_prepared limits.keep e) taken) c.self.view_is
