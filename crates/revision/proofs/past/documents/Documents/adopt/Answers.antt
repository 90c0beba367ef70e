use Rattle.std.proofs.Common.{◌≡◌, ◌+◌, ◌<◌, ℕ, Some, None, List, [], ◌∷◌, ◌++◌, length, map, take, sym, ap, ap₂, subst, ◌∙◌, arith, cond}
use Rattle.std.specs.Prelude.{is_none}
use Rattle.std.specs.Str.{bytes_eq}
use Rattle.std.specs.BTreeMap.{get_by_text}
use Rattle.std.proofs.lemmas.List.{map-append, length-append, length-map}
use Rattle.revision.specs.Documents.{PreparedState}
use Rattle.revision.specs.steps.DocumentsView.{names_of}
use Rattle.revision.specs.steps.Index.{number_of}
use Rattle.revision.specs.Pending.{PendingDocument, record_of, with_prepared}
use Rattle.revision.specs.Past.{Next, with_steps}
use Rattle.revision.specs.State.{DocumentRecord, find}
use Rattle.revision.proofs.Indexed.{index-more, none_twice-more, take_init, names_length, none_from_test, number-found}
use Rattle.revision.proofs.Untouched.{rest-one}
use Rattle.revision.proofs.past.documents.Documents.adopt.Goals as goal

pub invariant_of-self : goal.invariant_of-self
invariant_of-self c =
    let same = c.in_err-push_named.ensures.documents_unchanged in
    record {
      limits = c.self.invariant.limits;
      held = rw same c.self.invariant.held;
      room = rw same c.self.invariant.room;
      index = λ q. c.in_err-push_named.ensures.names_unchanged q ∙ c.self.invariant.index q ∙ ap (λ ds. number_of q 0 (names_of ds)) (sym same);
      none_twice = rw same c.self.invariant.none_twice;
      rest = rw same c.self.invariant.rest;
    }

made : (c : goal.After-drop-name-inside-2) → c.push_named.new.documents.items ≡ c.self.inside.documents.items ++ c.args.document ∷ []
made c = c.in_ok-push_named.ensures.documents

-- there is room for it, and its name is new
room : (c : goal.After-drop-name-inside-2) → length c.self.inside.documents.items < c.self.inside.limits.docs
room c =
    let documents = c.self.inside.documents.items in
    let there : length (map (with_prepared c.self.inside.limits.keep) documents) < c.self.inside.limits.docs =
    subst (λ (p : PreparedState). length p.after.documents < p.after.limits.docs) (sym c.self.view_is) c.requires.room in
    subst (λ n. n < c.self.inside.limits.docs) (length-map documents (with_prepared c.self.inside.limits.keep)) there

unnamed : (c : goal.After-drop-name-inside-2) → number_of c.args.document.name 0 (names_of c.self.inside.documents.items) ≡ None
unnamed c =
    none_from_test _ (number-found c.self.inside.limits.keep c.args.document.name 0 c.self.inside.documents.items
    ∙ ap (λ (p : PreparedState). is_none (find c.args.document.name 0 p.after.documents)) c.self.view_is ∙ c.requires.new)

pub invariant_of-self-2 : goal.invariant_of-self-2
invariant_of-self-2 c =
    let documents = c.self.inside.documents.items in
    let new = c.args.document in
    let name : c.in_ok-name.name ≡ new.name = c.in_ok-name.ensures.ok ∙ c.name.ensures in
    let at : c.len-number.result ≡ length (names_of documents) = omega (arith, c.len-number.ensures, names_length documents) in
    let names : names_of c.push_named.new.documents.items ≡ names_of documents ++ new.name ∷ [] =
    ap names_of (made c) ∙ map-append (λ (d : PendingDocument). d.name) documents _ in
    let long : length c.push_named.new.documents.items ≡ length documents + 1 = ap length (made c) ∙ length-append documents _ in
    record {
      limits = c.self.invariant.limits;
      held = omega (arith, long, c.self.invariant.held);
      room = omega (arith, long, room c);
      index = λ q. index-more (get_by_text c.self.inside.names.map) (get_by_text c.push_named.new.names.map) (names_of documents) new.name
          c.self.invariant.index (unnamed c)
          (λ q. c.in_ok-push_named.ensures.names q
          ∙ ap₂ (λ (n : List ℕ) (i : ℕ). cond (bytes_eq n q) (Some i) (get_by_text c.self.inside.names.map q)) name at) q
          ∙ ap (number_of q 0) (sym names);
      none_twice = rw names (none_twice-more (names_of documents) new.name c.self.invariant.none_twice (unnamed c));
      rest = rw (made c) (rest-one c.self.inside.touched.items documents new c.requires.still c.self.invariant.rest);
    }

pub returns-clause-ok : goal.returns-clause-ok
returns-clause-ok c =
    let documents = c.self.inside.documents.items in
    let new = c.args.document in
    ap₂ (λ (b a : List DocumentRecord). record { before = record { limits = c.self.inside.limits; documents = b }; after = record { limits = c.self.inside.limits; documents = a } })
    (ap (λ ds. map record_of (take c.self.inside.count ds)) (made c) ∙ ap (map record_of) (take_init c.self.inside.count documents _ c.self.invariant.held))
    (ap (map (with_prepared c.self.inside.limits.keep)) (made c)
    ∙ map-append (with_prepared c.self.inside.limits.keep) documents (new ∷ [])
    ∙ ap (λ (next : List Next). map (with_prepared c.self.inside.limits.keep) documents ++ record { name = new.name; past = with_steps c.self.inside.limits.keep new.past.past next } ∷ [])
    c.requires.still)
    ∙ ap (λ (p : PreparedState). record { before = p.before; after = record { limits = p.after.limits; documents = p.after.documents ++ record_of new ∷ [] } }) c.self.view_is
