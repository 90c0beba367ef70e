use Rattle.std.proofs.Common.{◌∙◌, ap, refl}
use Rattle.std.proofs.lemmas.Result.{IfOk-weaker}
use Rattle.recovery.specs.Filling.{open_slots, newest_segment}
use Rattle.inspection.specs.Filled as spec
use Rattle.inspection.specs.Filled.{info_of}
use Rattle.inspection.proofs.facts.info_text.Goals as goal

pub returns : goal.returns
unfolding info_of
returns g c =
    let store = c.args.store.now in
    let shape = c.in_ok-shape.ensures ∙ ap spec.shape_text c.shape.ensures.shape in
    let documents = c.in_ok-documents.ensures ∙ ap spec.documents_text c.state.ensures in
    let journal = c.in_ok-journal.ensures
    ∙ ap (λ n. spec.journal_text n c.newest_segment.result c.journal_bytes.result) c.open_slots.ensures.count
    ∙ ap (λ n. spec.journal_text (open_slots store) n c.journal_bytes.result) c.newest_segment.ensures
    ∙ ap (spec.journal_text (open_slots store) (newest_segment store)) c.journal_bytes.ensures in
    IfOk-weaker c.format.result _ _ (λ text is. is ∙ rw (shape, documents, journal) refl) c.format.ensures.ok
