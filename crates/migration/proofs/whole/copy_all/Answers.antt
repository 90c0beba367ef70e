use Rattle.std.proofs.Common.{◌≡◌, ◌∙◌, ◌+◌, Some, List, [], ◌∷◌, ◌++◌, length, map, sym, ap, subst, arith, length-append}
use Rattle.std.specs.Prelude.{slice_get}
use Rattle.std.proofs.lemmas.List.{length-map}
use Rattle.revision.specs.Pending.{record_of}
use Rattle.revision.specs.State.{DocumentRecord}
use Rattle.history.specs.Cell.{Cell}
use Rattle.migration.specs.Migrated.{AreSpelled}
use Rattle.migration.proofs.Cut.{record_at_place, spelled_more}
use Rattle.migration.proofs.CopiedSoFar.{AreCopiedTo, copied_more}
use Rattle.migration.proofs.whole.copy_all.Goals as goal

pub copy_document-requires : goal.copy_document-requires
copy_document-requires c =
    let documents = c.documents-documents.result.now in
    let document = c.document-item.result in
    let there = record_at_place documents c.loop-document.document-index document c.loop-document-test.true c.document-item.is in
    let is = c.facts.ensures.state in (
      c.args.state.now.limits,
      is.each c.loop-document.document-index (record_of document) (ap (λ (ds : List DocumentRecord). slice_get ds c.loop-document.document-index) (sym c.documents-documents.ensures.documents) ∙ there),
      c.requires,
      is.limits.sources,
    )

pub loop-document-preserved : goal.loop-document-preserved
loop-document-preserved c =
    let at = c.loop-document in
    let start = at.start.items in
    let documents = c.documents-documents.result.now in
    let document = c.document-item.result in
    let cell = c.in_ok-copy_document.field-0 in
    let there = record_at_place documents at.document-index document c.loop-document-test.true c.document-item.is in
    let here : slice_get (map record_of documents) (length start) ≡ Some (record_of document) =
    ap (λ n. slice_get (map record_of documents) n) at.invariant.count ∙ there in
    let items : c.push.new.self.items ≡ start ++ cell ∷ [] = c.in_ok-push.ensures.items in
    record {
      count = ap (λ (l : List Cell). length l) items ∙ (length-append start (cell ∷ []) ∙ ap (λ n. n + 1) at.invariant.count);
      copied = subst (λ (l : List Cell). AreCopiedTo (map record_of documents) l) (sym items)
          (copied_more (map record_of documents) start (record_of document) cell here c.in_ok-copy_document.ensures.copied at.invariant.copied);
      spelled = subst (λ (l : List Cell). AreSpelled l) (sym items)
          (spelled_more start cell (omega (arith, at.invariant.count, c.loop-document-test.true, c.documents-documents.ensures.bound)) c.in_ok-copy_document.ensures.spelled at.invariant.spelled);
    }

pub returns-clause-copied : goal.returns-clause-copied
returns-clause-copied c =
    let at = c.loop-document in
    let documents = c.documents-documents.result.now in
    let all = c.documents-documents.ensures.documents in
    record {
      count = omega (arith, at.invariant.count, at.auto.document-index-end, c.loop-document-test.false, length-map documents record_of, ap (λ (ds : List DocumentRecord). length ds) all);
      each = subst (λ (ds : List DocumentRecord). AreCopiedTo ds at.start.items) all at.invariant.copied;
    }
