use Rattle.std.proofs.Common.{◌≡◌, ◌<◌, ◌^◌, ◌∙◌, sym, ap, subst, length, get_or, List, rules}
use Rattle.std.specs.Prelude.{slice_get}
use Rattle.revision.specs.Invariants.{IsPast}
use Rattle.revision.specs.State.{DocumentRecord, Limits}
use Rattle.revision.specs.Pending.{record_of}
use Rattle.inspection.specs.Filled.{document_line}
use Rattle.inspection.proofs.Fronts.{on_err, appends-kept}
use Rattle.inspection.proofs.Told.{record_at_place, front-told, front-within, told-next}
use Rattle.inspection.proofs.lines.documents.Goals as goal

pub line_of-requires-clause-light : goal.line_of-requires-clause-light
line_of-requires-clause-light g c =
    subst (λ (l : Limits). l.weight < 2 ^ 32) (sym c.limits-limits.ensures.limits) c.limits-limits.ensures.state.limits.weight

pub line_of-requires-clause-past : goal.line_of-requires-clause-past
line_of-requires-clause-past g c =
    let items = c.documents-document-items.result.now in
    let index = c.loop-document.document-index in
    let within : index < length items = search rules in
    let is : c.document-item.result ≡ get_or items index c.document-item.result = search rules in
    let there = ap (λ (ds : List DocumentRecord). slice_get ds index) (sym c.documents-document-items.ensures.documents) ∙ record_at_place items index c.document-item.result within is in
    subst (λ (l : Limits). IsPast l (record_of c.document-item.result).past) (sym c.limits-limits.ensures.limits)
    (c.limits-limits.ensures.state.each index (record_of c.document-item.result) there)

pub returns-in_err-line-clause-front : goal.returns-in_err-line-clause-front
returns-in_err-line-clause-front g c =
    on_err c.from_residual.result
    (front-told (document_line c.args.state.now.limits) c.documents-document-items.result.now c.args.state.now.documents c.loop-document.document-index
    (g.O.Output.contents c.args.output.now) (g.O.Output.contents c.loop-document.output) c.documents-document-items.ensures.documents
    c.loop-document.invariant.written)

pub returns-in_err-put-clause-front : goal.returns-in_err-put-clause-front
returns-in_err-put-clause-front g c =
    let items = c.documents-document-items.result.now in
    let index = c.loop-document.document-index in
    let within : index < length items = search rules in
    let is : c.document-item.result ≡ get_or items index c.document-item.result = search rules in
    let line : c.as_bytes.result.now ≡ document_line c.args.state.now.limits (record_of c.document-item.result) = search rules in
    on_err c.from_residual-in_err-put.result
    (front-within (document_line c.args.state.now.limits) items c.args.state.now.documents index c.document-item.result c.as_bytes.result.now
    (g.O.Output.contents c.args.output.now) (g.O.Output.contents c.loop-document.output) (g.O.Output.contents c.put.new.self)
    c.documents-document-items.ensures.documents within is line c.loop-document.invariant.written c.in_err-put.ensures.front)

pub loop-document-preserved : goal.loop-document-preserved
loop-document-preserved g c =
    let items = c.documents-document-items.result.now in
    let index = c.loop-document.document-index in
    let within : index < length items = search rules in
    let is : c.document-item.result ≡ get_or items index c.document-item.result = search rules in
    let line : c.as_bytes.result.now ≡ document_line c.args.state.now.limits (record_of c.document-item.result) = search rules in
    record {
      written = told-next (document_line c.args.state.now.limits) items index c.document-item.result c.as_bytes.result.now
          (g.O.Output.contents c.args.output.now) (g.O.Output.contents c.loop-document.output) (g.O.Output.contents c.put.new.self)
          within is line c.loop-document.invariant.written c.in_ok-put.ensures.written;
      works = c.in_ok-put.ensures.works.1 ∙ sym c.in_ok-put.ensures.works.0 ∙ c.loop-document.invariant.works;
    }

pub returns-in_err-flush-clause-front : goal.returns-in_err-flush-clause-front
returns-in_err-flush-clause-front g c =
    on_err c.from_residual-in_err-flush.result
    (front-told (document_line c.args.state.now.limits) c.documents-document-items.result.now c.args.state.now.documents c.loop-document.document-index
    (g.O.Output.contents c.args.output.now) (g.O.Output.contents c.flush.new.self) c.documents-document-items.ensures.documents
    (appends-kept (g.O.Output.contents c.args.output.now) (g.O.Output.contents c.loop-document.output) (g.O.Output.contents c.flush.new.self) _
    c.loop-document.invariant.written c.flush.ensures.kept))
