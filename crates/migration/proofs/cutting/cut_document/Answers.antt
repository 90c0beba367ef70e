use Rattle.std.proofs.Common.{◌≡◌, inl, inr, true, Err, map, sym, ◌∙◌, ap, subst, arith}
use Rattle.revision.specs.Sources.{Sources, cut}
use Rattle.revision.specs.Past.{Content, is_content, newest, content_at}
use Rattle.revision.specs.Pending.{record_of}
use Rattle.revision.specs.State.{are_sources}
use Rattle.history.specs.Cell.{Cell}
use Rattle.migration.proofs.Light.{sources_cut, light_enough}
use Rattle.migration.proofs.cutting.cut_document.Goals as goal

pub new-cut-requires-clause-sources : goal.new-cut-requires-clause-sources
new-cut-requires-clause-sources c =
    let document = record_of c.args.document.now in
    let entries = c.in_ok-sources.ensures.cut ∙ ap (λ (s : Sources). map cut s.entries) c.sources.ensures in
    subst (λ n. are_sources n c.in_ok-sources.sources.entries ≡ true) (sym c.revision.ensures.revision)
    (sources_cut c.requires.0 document.past c.in_ok-sources.sources.entries c.requires.1 entries)

-- a document that keeps the limits has a spelling
pub as_alloc_error-requires : goal.as_alloc_error-requires
as_alloc_error-requires c =
    let units = ap (λ (cell : Cell). cell.content.units) c.new-cut.ensures ∙ (c.in_ok-content.ensures.same ∙ c.document.ensures) in
    let heavy = c.in-Err.ensures.heavy in
    elim c.in-Err.ensures.only [
      | inl much ↦ absurd (light_enough c.requires.0 (record_of c.args.document.now).past c.new-cut.result.content.units c.requires.1 c.requires.2 units (heavy (ap (λ e. Err e) much)))
      | inr none ↦ none
    ]

-- it is there, as it is in the document
pub new-cut-requires-clause-content : goal.new-cut-requires-clause-content
new-cut-requires-clause-content c =
    let past = (record_of c.args.document.now).past in
    let at = c.requires.1.each (newest past) (omega arith) (omega arith) in
    let units : c.in_ok-content.content ≡ (content_at past (newest past)).units = c.in_ok-content.ensures.same ∙ c.document.ensures in
    let same : ◌≡◌ {A = Content} (record { units = c.in_ok-content.content; live = c.is_live.result }) (content_at past (newest past)) =
    λ i. record { units = units i; live = c.is_live.ensures i } in
    subst (λ (k : Content). is_content k ≡ true) (sym same) at.content
