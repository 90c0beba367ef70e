use Rattle.std.proofs.Common.{◌≡◌, ◌+◌, ℕ, Some, true, List, [], ◌∷◌, ◌++◌, length, map, take, sym, ap, ap₂, subst, ◌∙◌, arith, cond}
use Rattle.std.specs.Str.{bytes_eq}
use Rattle.std.specs.BTreeMap.{get_by_text}
use Rattle.std.proofs.lemmas.List.{map-append, length-append}
use Rattle.std.proofs.lemmas.Option.{IfSome_then}
use Rattle.revision.specs.Documents.{PreparedState}
use Rattle.revision.specs.steps.DocumentsView.{names_of}
use Rattle.revision.specs.steps.Index.{number_of}
use Rattle.revision.specs.Pending.{PendingDocument, record_of, with_prepared}
use Rattle.revision.specs.Made.{IsMade}
use Rattle.revision.specs.State.{DocumentRecord, has_room, grows, grown}
use Rattle.revision.proofs.Indexed.{index-more, none_twice-more, take_init, names_length}
use Rattle.revision.proofs.MadeDocuments.{left_new}
use Rattle.revision.proofs.OneMore.{room_for, created_by, created_parts, same_length, state_by}
use Rattle.revision.proofs.Untouched.{rest-touch, rest-more}
use Rattle.revision.proofs.past.documents.Documents.create.Goals as goal

pub invariant_of-self : goal.invariant_of-self
invariant_of-self c = record {
  limits = c.self.invariant.limits;
  held = c.self.invariant.held;
  room = c.self.invariant.room;
  index = c.self.invariant.index;
  none_twice = c.self.invariant.none_twice;
  rest = rw c.in_err-push.ensures.items c.self.invariant.rest;
}

pub invariant_of-self-in_err-push_named : goal.invariant_of-self-in_err-push_named
invariant_of-self-in_err-push_named c =
    let same = c.in_err-push_named.ensures.documents_unchanged in
    record {
      limits = c.self.invariant.limits;
      held = rw same c.self.invariant.held;
      room = rw same c.self.invariant.room;
      index = λ q. c.in_err-push_named.ensures.names_unchanged q ∙ c.self.invariant.index q ∙ ap (λ ds. number_of q 0 (names_of ds)) (sym same);
      none_twice = rw same c.self.invariant.none_twice;
      rest = rw same (rw c.in_ok-push.ensures.items (rest-touch c.self.inside.touched.items c.document_number-number.result c.self.inside.documents.items c.self.invariant.rest));
    }

-- there is room for the document
room : (c : goal.In_ok-push_named) → has_room (state_by c.self.inside.limits c.self.inside.documents.items) c.args.taken.now.document (Some c.args.name.now) ≡ true
room c =
    (created_parts (state_by c.self.inside.limits c.self.inside.documents.items) c.args.taken.now c.args.name.now c.requires.name
    (ap (λ (p : PreparedState). grows p.after c.args.taken.now) c.self.view_is ∙ c.requires.continues)).0

made : (c : goal.In_ok-push_named) → c.push_named.new.documents.items ≡ c.self.inside.documents.items ++ c.in_ok-document.document ∷ []
made c = c.in_ok-push_named.ensures.documents

pub invariant_of-self-2 : goal.invariant_of-self-2
invariant_of-self-2 c =
    let documents = c.self.inside.documents.items in
    let there = room_for c.self.inside.limits documents c.args.taken.now c.args.name.now c.args.taken.now.document (room c) in
    let names : names_of c.push_named.new.documents.items ≡ names_of documents ++ c.args.name.now ∷ [] =
    ap names_of (made c) ∙ map-append (λ (d : PendingDocument). d.name) documents _
    ∙ ap (λ (d : PendingDocument). names_of documents ++ d.name ∷ []) c.in_ok-document.ensures.ok in
    let long : length c.push_named.new.documents.items ≡ length documents + 1 = ap length (made c) ∙ length-append documents _ in
    record {
      limits = c.self.invariant.limits;
      held = omega (arith, long, c.self.invariant.held);
      room = omega (arith, long, there.1);
      index = λ q. index-more (get_by_text c.self.inside.names.map) (get_by_text c.push_named.new.names.map) (names_of documents) c.args.name.now
          c.self.invariant.index there.2
          (λ q. c.in_ok-push_named.ensures.names q
          ∙ ap (λ (n : ℕ). cond (bytes_eq c.args.name.now q) (Some n) (get_by_text c.self.inside.names.map q)) (c.document_number-number.ensures ∙ there.0 ∙ sym (names_length documents))) q
          ∙ ap (number_of q 0) (sym names);
      none_twice = rw names (none_twice-more (names_of documents) c.args.name.now c.self.invariant.none_twice there.2);
      rest = rw (made c) (rw c.in_ok-push.ensures.items (rest-more c.self.inside.touched.items c.document_number-number.result documents c.in_ok-document.document (c.document_number-number.ensures ∙ there.0) c.self.invariant.rest));
    }

pub returns-clause-ok : goal.returns-clause-ok
returns-clause-ok c =
    let documents = c.self.inside.documents.items in
    let there = room_for c.self.inside.limits documents c.args.taken.now c.args.name.now c.args.taken.now.document (room c) in
    ap₂ (λ (b a : List DocumentRecord). record { before = record { limits = c.self.inside.limits; documents = b }; after = record { limits = c.self.inside.limits; documents = a } })
    (ap (λ ds. map record_of (take c.self.inside.count ds)) (made c) ∙ ap (map record_of) (take_init c.self.inside.count documents _ c.self.invariant.held))
    (ap (map (with_prepared c.self.inside.limits.keep)) (made c ∙ ap (λ (d : PendingDocument). documents ++ d ∷ []) c.in_ok-document.ensures.ok)
    ∙ created_by c.self.inside.limits documents c.args.taken.now c.args.name.now there.0 c.requires.name)
    ∙ ap (λ (p : PreparedState). record { before = p.before; after = grown p.after c.args.taken.now }) c.self.view_is

-- what is given is what the creation leaves
pub begin-requires-clause-made : goal.begin-requires-clause-made
begin-requires-clause-made c =
    let limits = c.self.inside.limits in
    let documents = c.self.inside.documents.items in
    let state = state_by limits documents in
    let taken = c.args.taken.now in
    let name = c.args.name.now in
    let room = (created_parts state taken name c.requires.name (ap (λ (p : PreparedState). grows p.after taken) c.self.view_is ∙ c.requires.continues)).0 in
    let at : taken.document ≡ length state.documents = (room_for limits documents taken name taken.document room).0 ∙ sym (same_length limits.keep documents) in
    IfSome_then c.args.made c.requires.made
    (λ document is. left_new state taken name document.now c.requires.name at (subst (λ (p : PreparedState). IsMade p.after taken document.now) (sym c.self.view_is) is))
