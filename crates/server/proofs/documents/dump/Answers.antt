use Rattle.std.proofs.Common.{◌≡◌, ◌<◌, ◌∙◌, sym, length, get_or, rules}
use Rattle.revision.specs.Pending.{record_of}
use Rattle.server.specs.Dump.{document_line}
use Rattle.server.proofs.Fronts.{on_err, appends-kept}
use Rattle.server.proofs.Dumps.{front-dumped, front-within, dumped-next}
use Rattle.server.proofs.documents.dump.Goals as goal

pub returns-in_err-line-clause-front : goal.returns-in_err-line-clause-front
returns-in_err-line-clause-front g c =
    on_err c.from_residual.result
    (front-dumped c.documents-document-items.result.now c.args.state.now.documents c.loop-document.document-index
    (g.O.Output.contents c.args.output.now) (g.O.Output.contents c.loop-document.output) c.documents-document-items.ensures.documents
    c.loop-document.invariant.written)

pub returns-in_err-put-clause-front : goal.returns-in_err-put-clause-front
returns-in_err-put-clause-front g c =
    let items = c.documents-document-items.result.now in
    let index = c.loop-document.document-index in
    let within : index < length items = search rules in
    let is : c.document-item.result ≡ get_or items index c.document-item.result = search rules in
    let line : c.as_bytes.result.now ≡ document_line (record_of c.document-item.result) = search rules in
    on_err c.from_residual-in_err-put.result
    (front-within items c.args.state.now.documents index c.document-item.result c.as_bytes.result.now
    (g.O.Output.contents c.args.output.now) (g.O.Output.contents c.loop-document.output) (g.O.Output.contents c.put.new.self)
    c.documents-document-items.ensures.documents within is line c.loop-document.invariant.written c.in_err-put.ensures.front)

pub loop-document-preserved : goal.loop-document-preserved
loop-document-preserved g c =
    let items = c.documents-document-items.result.now in
    let index = c.loop-document.document-index in
    let within : index < length items = search rules in
    let is : c.document-item.result ≡ get_or items index c.document-item.result = search rules in
    let line : c.as_bytes.result.now ≡ document_line (record_of c.document-item.result) = search rules in
    record {
      written = dumped-next items index c.document-item.result c.as_bytes.result.now
          (g.O.Output.contents c.args.output.now) (g.O.Output.contents c.loop-document.output) (g.O.Output.contents c.put.new.self)
          within is line c.loop-document.invariant.written c.in_ok-put.ensures.written;
      works = c.in_ok-put.ensures.works.1 ∙ sym c.in_ok-put.ensures.works.0 ∙ c.loop-document.invariant.works;
    }

pub returns-in_err-flush-clause-front : goal.returns-in_err-flush-clause-front
returns-in_err-flush-clause-front g c =
    on_err c.from_residual-in_err-flush.result
    (front-dumped c.documents-document-items.result.now c.args.state.now.documents c.loop-document.document-index
    (g.O.Output.contents c.args.output.now) (g.O.Output.contents c.flush.new.self) c.documents-document-items.ensures.documents
    (appends-kept (g.O.Output.contents c.args.output.now) (g.O.Output.contents c.loop-document.output) (g.O.Output.contents c.flush.new.self) _
    c.loop-document.invariant.written c.flush.ensures.kept))
