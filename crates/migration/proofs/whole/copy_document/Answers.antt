use Rattle.std.proofs.Common.{◌≡◌, inl, inr, true, Err, sym, ◌∙◌, ap, subst}
use Rattle.revision.specs.Sources.{Sources}
use Rattle.revision.specs.Past.{Content, is_content, newest, content_at, sources_at}
use Rattle.revision.specs.Pending.{record_of}
use Rattle.revision.specs.State.{are_sources}
use Rattle.history.specs.Cell.{Cell}
use Rattle.migration.proofs.Light.{at_newest, light_enough}
use Rattle.migration.proofs.whole.copy_document.Goals as goal

pub new-copy-requires-clause-sources : goal.new-copy-requires-clause-sources
new-copy-requires-clause-sources c =
    let past = (record_of c.args.document.now).past in
    let same : c.in_ok-sources.sources ≡ sources_at past (newest past) = c.in_ok-sources.ensures.same ∙ c.sources.ensures in
    subst (λ n. are_sources n c.in_ok-sources.sources.entries ≡ true) (sym c.revision.ensures.revision)
    (subst (λ (s : Sources). are_sources (newest past) s.entries ≡ true) (sym same) (at_newest c.requires.0 past c.requires.1).sources)

-- it is there, as it is in the document
pub new-copy-requires-clause-content : goal.new-copy-requires-clause-content
new-copy-requires-clause-content c =
    let past = (record_of c.args.document.now).past in
    let at = at_newest c.requires.0 past c.requires.1 in
    let units : c.in_ok-content.content ≡ (content_at past (newest past)).units = c.in_ok-content.ensures.same ∙ c.document.ensures in
    let same : ◌≡◌ {A = Content} (record { units = c.in_ok-content.content; live = c.is_live.result }) (content_at past (newest past)) =
    λ i. record { units = units i; live = c.is_live.ensures i } in
    subst (λ (k : Content). is_content k ≡ true) (sym same) at.content

-- a document that keeps the limits has a spelling
pub as_alloc_error-requires : goal.as_alloc_error-requires
as_alloc_error-requires c =
    let units = ap (λ (cell : Cell). cell.content.units) c.new-copy.ensures ∙ (c.in_ok-content.ensures.same ∙ c.document.ensures) in
    let heavy = c.in-Err.ensures.heavy in
    elim c.in-Err.ensures.only [
      | inl much ↦ absurd (light_enough c.requires.0 (record_of c.args.document.now).past c.new-copy.result.content.units c.requires.1 c.requires.2 units (heavy (ap (λ e. Err e) much)))
      | inr none ↦ none
    ]
