use Rattle.std.proofs.Common.{◌-◌, List, take, drop, sym, ap, ap₂, subst, ◌∙◌}
use Rattle.delta.specs.Element.{Element}
use Rattle.delta.specs.Operation.{Operation}
use Rattle.compose.specs.Many.{applied}
use Rattle.revision.specs.declared.rule.taker.Taker.{Taker}
use Rattle.revision.specs.Past.{AreNoted, StandInTurn, sources_after, changes_by}
use Rattle.revision.specs.steps.PastView.{parts_of}
use Rattle.revision.proofs.Replaying.{replay_sources}
use Rattle.revision.proofs.FromBase.{slice-from, base_there, base_stand, base_applied, base_replay}
use Rattle.revision.proofs.past.Past.replay_to.Goals as goal

pub sources_after_first-requires-clause-noted : goal.sources_after_first-requires-clause-noted
sources_after_first-requires-clause-noted c =
    let parts = parts_of c.self.inside in
    subst (AreNoted parts.start parts.sources (changes_by c.as_slice-2.result.now c.as_slice-3.result.now)) (sym c.as_slice.ensures.value)
    (subst (λ (t : List Taker). AreNoted parts.start parts.sources (changes_by t c.as_slice-3.result.now) parts.kept) (sym c.as_slice-2.ensures.value)
    (subst (λ (d : List (List Operation)). AreNoted parts.start parts.sources (changes_by parts.takers d) parts.kept) (sym c.as_slice-3.ensures.value) c.self.invariant.noted))

pub document_at-requires-clause-there : goal.document_at-requires-clause-there
document_at-requires-clause-there c = base_there (parts_of c.self.inside) c.self.invariant c.args.self.now c.self.view_is c.base_for-base.result c.args.revision c.base_for-base.ensures.held c.base_for-base.ensures.below c.requires.there

pub returns-clause-made : goal.returns-clause-made
returns-clause-made c =
    let below = c.base_for-base.result - c.self.inside.start in
    let count = c.args.revision - c.self.inside.start in
    base_replay (parts_of c.self.inside) c.self.invariant c.args.self.now c.self.view_is c.base_for-base.result c.args.revision c.base_for-base.ensures.held c.base_for-base.ensures.below c.requires.there
    c.in_ok-document.document c.in_ok-deltas.deltas.items c.in_ok-document.ensures.document
    (c.in_ok-deltas.ensures.same
    ∙ (slice-from below (take count c.as_slice-4.result.now) ∙ ap (λ (l : List (List Operation)). drop below (take count l)) c.as_slice-4.ensures.value))

pub returns-clause-stand : goal.returns-clause-stand
returns-clause-stand c =
    let below = c.base_for-base.result - c.self.inside.start in
    let count = c.args.revision - c.self.inside.start in
    subst (StandInTurn c.in_ok-document.document)
    (sym (c.in_ok-deltas.ensures.same
    ∙ (slice-from below (take count c.as_slice-4.result.now) ∙ ap (λ (l : List (List Operation)). drop below (take count l)) c.as_slice-4.ensures.value)))
    (subst (λ (units : List Element). StandInTurn units (drop below (take count c.self.inside.deltas.items))) (sym c.in_ok-document.ensures.document)
    (base_stand (parts_of c.self.inside) c.self.invariant c.args.self.now c.self.view_is c.base_for-base.result c.args.revision c.base_for-base.ensures.held c.base_for-base.ensures.below c.requires.there))

pub returns-clause-units : goal.returns-clause-units
returns-clause-units c =
    let below = c.base_for-base.result - c.self.inside.start in
    let count = c.args.revision - c.self.inside.start in
    ap₂ applied c.in_ok-document.ensures.document
    (c.in_ok-deltas.ensures.same
    ∙ (slice-from below (take count c.as_slice-4.result.now) ∙ ap (λ (l : List (List Operation)). drop below (take count l)) c.as_slice-4.ensures.value))
    ∙ base_applied (parts_of c.self.inside) c.self.invariant c.args.self.now c.self.view_is c.base_for-base.result c.args.revision c.base_for-base.ensures.held c.base_for-base.ensures.below c.requires.there

pub returns-clause-sources : goal.returns-clause-sources
returns-clause-sources c =
    let count = c.args.revision - c.self.inside.start in
    c.in_ok-sources.ensures.sources
    ∙ (ap₂ (λ (t : List Taker) (d : List (List Operation)). sources_after c.self.inside.start c.self.inside.sources (changes_by (take count t) (take count d)))
    c.as_slice-2.ensures.value c.as_slice-3.ensures.value
    ∙ replay_sources (parts_of c.self.inside) c.self.invariant c.args.self.now c.self.view_is c.args.revision c.requires.held c.requires.there)
