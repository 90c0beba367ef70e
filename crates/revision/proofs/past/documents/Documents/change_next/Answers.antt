use Rattle.std.proofs.Common.{◌≡◌, subst, List, [], ◌∷◌, ◌++◌, length, map, take, refl, sym, ap, ap₂, ◌∙◌, arith}
use Rattle.std.specs.Prelude.{slice_get}
use Rattle.revision.specs.steps.ChangedAt.{IsAmong}
use Rattle.revision.specs.Documents.{PreparedState}
use Rattle.revision.specs.steps.DocumentsView.{names_of}
use Rattle.revision.specs.steps.Index.{number_of}
use Rattle.revision.specs.Pending.{PendingDocument, record_of, with_prepared}
use Rattle.revision.specs.steps.Preparing.{with_next}
use Rattle.std.proofs.lemmas.Option.{IfSome_then}
use Rattle.revision.specs.Made.{IsMade}
use Rattle.revision.specs.State.{DocumentRecord, next_of, record_by_name, set_document, grown}
use Rattle.revision.proofs.ChangedAt.{map-changed_at, length-changed_at, among-last}
use Rattle.revision.proofs.Untouched.{rest-touch, rest-changed}
use Rattle.revision.proofs.MadeDocuments.{left_by}
use Rattle.revision.proofs.OneMore.{changed_by, record_of-changed}
use Rattle.revision.proofs.past.documents.Documents.change_next.Goals as goal

pub invariant_of-self : goal.invariant_of-self
invariant_of-self c = record {
  limits = c.self.invariant.limits;
  held = c.self.invariant.held;
  room = c.self.invariant.room;
  index = c.self.invariant.index;
  none_twice = c.self.invariant.none_twice;
  rest = rw c.in_err-push.ensures.items c.self.invariant.rest;
}

pub invariant_of-self-in_err-change : goal.invariant_of-self-in_err-change
invariant_of-self-in_err-change c =
    let same = c.in_err-change.ensures.unchanged in
    record {
      limits = c.self.invariant.limits;
      held = rw same c.self.invariant.held;
      room = rw same c.self.invariant.room;
      index = λ q. c.self.invariant.index q ∙ ap (λ ds. number_of q 0 (names_of ds)) (sym same);
      none_twice = rw same c.self.invariant.none_twice;
      rest = rw same (rw c.in_ok-push.ensures.items (rest-touch c.self.inside.touched.items c.document_number.result c.self.inside.documents.items c.self.invariant.rest));
    }

pub invariant_of-self-2 : goal.invariant_of-self-2
invariant_of-self-2 c =
    let f = with_next (next_of c.args.taken) in
    let made = c.in_ok-change.ensures.ok in
    let i = c.args.taken.document in
    let documents = c.self.inside.documents.items in
    let touched = c.self.inside.touched.items ++ c.document_number.result ∷ [] in
    let names : names_of c.change.new.documents.items ≡ names_of documents =
    ap names_of made ∙ map-changed_at (λ (d : PendingDocument). d.name) f (λ d. refl) i documents in
    let long : length c.change.new.documents.items ≡ length documents = ap length made ∙ length-changed_at f i documents in
    let among : IsAmong i touched = rw c.document_number.ensures (among-last c.self.inside.touched.items i) in
    record {
      limits = c.self.invariant.limits;
      held = omega (arith, long, c.self.invariant.held);
      room = omega (arith, long, c.self.invariant.room);
      index = λ q. c.self.invariant.index q ∙ ap (number_of q 0) (sym names);
      none_twice = rw names c.self.invariant.none_twice;
      rest = rw made (rw c.in_ok-push.ensures.items
          (rest-changed f touched i documents among (rest-touch c.self.inside.touched.items c.document_number.result documents c.self.invariant.rest)));
    }

pub returns-clause-ok : goal.returns-clause-ok
returns-clause-ok c =
    let f = with_next (next_of c.args.taken) in
    let made = c.in_ok-change.ensures.ok in
    let i = c.args.taken.document in
    let documents = c.self.inside.documents.items in
    let keep = c.self.inside.limits.keep in
    ap₂ (λ (b a : List DocumentRecord). record { before = record { limits = c.self.inside.limits; documents = b }; after = record { limits = c.self.inside.limits; documents = a } })
    (ap (λ ds. map record_of (take c.self.inside.count ds)) made ∙ record_of-changed f (λ d. refl) c.self.inside.count i documents)
    (ap (map (with_prepared keep)) made ∙ sym (changed_by keep i documents c.args.taken)
    ∙ ap (λ n. set_document i (record_by_name keep (slice_get (map (with_prepared keep) documents) i) c.args.taken n) (map (with_prepared keep) documents)) (sym c.requires.name))
    ∙ ap (λ (p : PreparedState). record { before = p.before; after = grown p.after c.args.taken }) c.self.view_is

-- what is given is what the command leaves
pub change-requires-clause-made : goal.change-requires-clause-made
change-requires-clause-made c =
    let limits = c.self.inside.limits in
    let documents = c.self.inside.documents.items in
    IfSome_then c.args.made c.requires.made
    (λ document is. left_by (record { limits = limits; documents = map (with_prepared limits.keep) documents }) c.args.taken document.now c.requires.name
    (subst (λ (p : PreparedState). IsMade p.after c.args.taken document.now) (sym c.self.view_is) is))
