use Rattle.std.proofs.Common.{◌<◌, None, length, map, sym, ap, ◌∙◌, arith}
use Rattle.std.specs.Prelude.{slice_get}
use Rattle.revision.specs.steps.ChangedAt.{changed_at}
use Rattle.revision.specs.Pending.{with_prepared}
use Rattle.revision.specs.steps.Preparing.{with_next}
use Rattle.std.proofs.lemmas.Option.{IfSome_then}
use Rattle.revision.specs.Made.{text_of}
use Rattle.revision.specs.State.{next_of, record_by_name}
use Rattle.revision.proofs.ChangedAt.{set-changed}
use Rattle.revision.proofs.MadeDocuments.{left_of}
use Rattle.revision.proofs.OneMore.{continued-within, same_length}
use Rattle.revision.proofs.past.documents.change.Goals as goal

pub returns-clause-ok : goal.returns-clause-ok
returns-clause-ok c =
    let documents = c.args.documents.now.items in
    let keep = c.args.limits.keep in
    let within = continued-within c.args.limits (map (with_prepared keep) documents) c.args.taken.document c.args.taken c.requires.continues in
    let inside : c.document_number-number.result < length documents = omega (arith, within, same_length keep documents, c.document_number-number.ensures) in
    set-changed (with_next (next_of c.args.taken)) documents c.document_number-number.result c.index_mut.result.now _
    inside c.index_mut.ensures.value c.in_ok-prepare_next.ensures.ok
    ∙ ap (λ i. changed_at (with_next (next_of c.args.taken)) i documents) c.document_number-number.ensures

-- what is given is what the change makes of what is prepared
pub prepare_next-requires-clause-made : goal.prepare_next-requires-clause-made
prepare_next-requires-clause-made c =
    let documents = c.args.documents.now.items in
    let keep = c.args.limits.keep in
    let taken = c.args.taken in
    let number = c.document_number-number.result in
    let within = continued-within c.args.limits (map (with_prepared keep) documents) taken.document taken c.requires.continues in
    let inside : number < length documents = omega (arith, within, same_length keep documents, c.document_number-number.ensures) in
    IfSome_then c.args.made c.requires.made
    (λ document is. is
    ∙ (ap (λ i. text_of (record_by_name keep (slice_get (map (with_prepared keep) documents) i) taken None)) (sym c.document_number-number.ensures)
    ∙ left_of keep documents number c.index_mut.result.now taken inside c.index_mut.ensures.value))
