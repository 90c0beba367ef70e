use Rattle.std.proofs.Common.{◌≡◌, ◌∙◌, ap, rules}
use Rattle.revision.specs.State.{revision_of}
use Rattle.revision.specs.Pending.{record_of}
use Rattle.server.specs.Dump.{line_of, content_text}
use Rattle.server.proofs.documents.line_of.Goals as goal

pub returns : goal.returns
returns c = record {
  ok =
      let document = record_of c.args.document.now in
      let name : c.as_str-name.result.now ≡ document.name = c.as_str-name.ensures.text ∙ c.name.ensures in
      let text : c.deref.result.now ≡ content_text document = search rules in
      c.in_ok-line.ensures
      ∙ ap (λ n. line_of n c.revision.result c.floor.result c.deref.result.now) name
      ∙ ap (λ r. line_of document.name r c.floor.result c.deref.result.now) c.revision.ensures.revision
      ∙ ap (λ f. line_of document.name (revision_of document) f c.deref.result.now) c.floor.ensures
      ∙ ap (line_of document.name (revision_of document) document.past.floor) text;
}
