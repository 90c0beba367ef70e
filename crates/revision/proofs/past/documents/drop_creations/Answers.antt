use Rattle.std.proofs.Common.{◌≡◌, ◌∷◌, [], ◌++◌, None, take, sym, ap, ◌∙◌, arith, cond}
use Rattle.std.specs.Str.{bytes_eq}
use Rattle.std.specs.BTreeMap.{get_by_text}
use Rattle.std.proofs.lemmas.List.{take_all, map-append}
use Rattle.revision.specs.steps.DocumentsView.{names_of}
use Rattle.revision.specs.steps.Index.{number_of, NoneTwice}
use Rattle.revision.specs.Pending.{PendingDocument}
use Rattle.revision.proofs.Indexed.{index-less, last_is_new, take_init}
use Rattle.revision.proofs.past.documents.drop_creations.Goals as goal

pub returns : goal.returns
returns c = record {
  documents = sym (take_all c.args.count c.loop-documents.documents.items (omega (arith, c.len.ensures, c.loop-documents-test.false))) ∙ c.loop-documents.invariant.held;
  index = c.loop-documents.invariant.index;
  once = c.loop-documents.invariant.once;
}

pub loop-documents-preserved-in-Some : goal.loop-documents-preserved-in-Some
loop-documents-preserved-in-Some c =
    let whole = c.in-Some.ensures.items in
    let names : names_of c.loop-documents.documents.items ≡ names_of c.pop.new.self.items ++ c.in-Some.document.name ∷ [] =
    ap names_of whole ∙ map-append (λ (d : PendingDocument). d.name) c.pop.new.self.items _ in
    let once : NoneTwice (names_of c.pop.new.self.items ++ c.in-Some.document.name ∷ []) = rw (sym names) c.loop-documents.invariant.once in
    record {
      held = sym (take_init c.args.count c.pop.new.self.items c.in-Some.document (omega (arith, c.loop-documents-test.true, c.len.ensures, c.in-Some.ensures.len)))
          ∙ ap (take c.args.count) (sym whole) ∙ c.loop-documents.invariant.held;
      some = omega (arith, c.loop-documents-test.true, c.len.ensures, c.in-Some.ensures.len);
      index = index-less (get_by_text c.loop-documents.names.map) (get_by_text c.remove.new.self.map) (names_of c.pop.new.self.items) c.in-Some.document.name
          (λ q. c.loop-documents.invariant.index q ∙ ap (λ ns. number_of q 0 ns) names) once
          (λ q. c.remove.ensures q ∙ ap (λ n. cond (bytes_eq n q) None (get_by_text c.loop-documents.names.map q)) c.name.ensures);
      once = (last_is_new (names_of c.pop.new.self.items) c.in-Some.document.name once).0;
    }
