use Rattle.std.proofs.Common.{◌≡◌, ◌∷◌, ◌++◌, ◌≤◌, [], ℕ, List, Some, true, length, take, get_or, sym, ap, subst, ◌∙◌, arith}
use Rattle.std.proofs.lemmas.List.{length-map, take_all}
use Rattle.std.specs.Prelude.{slice_get, is_none}
use Rattle.revision.specs.Documents.{PreparedState}
use Rattle.revision.specs.Floors.{raised, raised_each}
use Rattle.revision.specs.Invariants.{IsState}
use Rattle.revision.specs.Pending.{PendingDocument, record_of}
use Rattle.revision.specs.State.{State, DocumentRecord, find}
use Rattle.revision.proofs.NewNames.{new-to-those-before, record_of-at, one-more}
use Rattle.revision.proofs.Raising.{raised-at, raised-differ, raised-length, raised-is-state}
use Rattle.revision.proofs.past.state.State.copy_from.Goals as goal

-- the document that is added, where it stands
placed : (floors : List ℕ) (documents : List DocumentRecord) (items : List PendingDocument) (n floor : ℕ) (item : PendingDocument) → slice_get documents n ≡ Some (record_of item)
    → floor ≡ get_or floors n 0 → slice_get (raised_each floors documents) n ≡ Some (record { name = item.name; past = raised floor item.past.past })
placed floors documents items n floor item at floor_is =
    raised-at floors documents n (record_of item) at ∙ ap (λ f. Some (record { name = item.name; past = raised f item.past.past })) (sym floor_is)

pub adopt-requires-clause-new : goal.adopt-requires-clause-new
adopt-requires-clause-new c =
    let all : List DocumentRecord = raised_each c.args.floors.now c.args.self.now.documents in
    let here : slice_get c.args.self.now.documents c.loop-number.number ≡ Some (record_of c.index-documents-number.result) =
    record_of-at c.documents-documents.result.now c.loop-number.number c.index-documents-number.result c.args.self.now.documents
    c.loop-number-test.true c.index-documents-number.is c.documents-documents.ensures.documents in
    let at = placed c.args.floors.now c.args.self.now.documents c.documents-documents.result.now c.loop-number.number c.floor_at-floor.result c.index-documents-number.result here
    c.floor_at-floor.ensures in
    let fresh = new-to-those-before all c.loop-number.number
    (record { name = c.index-documents-number.result.name; past = raised c.floor_at-floor.result c.index-documents-number.result.past.past })
    (raised-differ c.args.floors.now c.args.self.now.documents c.limits.ensures.state.names) at in
    subst (λ (n : List ℕ). is_none (find n 0 c.loop-number.copy.after.documents) ≡ true) (sym (ap (λ (p : PendingDocument). p.name) c.in_ok-copy_from.ensures.same))
    (subst (λ (s : State). is_none (find c.index-documents-number.result.name 0 s.documents) ≡ true) (sym c.loop-number.invariant) fresh)

pub loop-number-preserved : goal.loop-number-preserved
loop-number-preserved c =
    let all : List DocumentRecord = raised_each c.args.floors.now c.args.self.now.documents in
    let here : slice_get c.args.self.now.documents c.loop-number.number ≡ Some (record_of c.index-documents-number.result) =
    record_of-at c.documents-documents.result.now c.loop-number.number c.index-documents-number.result c.args.self.now.documents
    c.loop-number-test.true c.index-documents-number.is c.documents-documents.ensures.documents in
    let at = placed c.args.floors.now c.args.self.now.documents c.documents-documents.result.now c.loop-number.number c.floor_at-floor.result c.index-documents-number.result here
    c.floor_at-floor.ensures in
    ap (λ (p : PreparedState). p.after) c.in_ok-adopt.ensures.ok
    ∙ (ap (λ (s : State). record s { documents = s.documents ++ record_of c.in_ok-copy_from.field-0 ∷ [] }) c.loop-number.invariant
    ∙ (ap (λ (p : PendingDocument). record { limits = c.args.self.now.limits; documents = take c.loop-number.number all ++ record_of p ∷ [] }) c.in_ok-copy_from.ensures.same
    ∙ ap (λ (l : List DocumentRecord). record { limits = c.args.self.now.limits; documents = l })
    (one-more all c.loop-number.number (record { name = c.index-documents-number.result.name; past = raised c.floor_at-floor.result c.index-documents-number.result.past.past }) at)))

whole : (c : goal.After-accept) → c.loop-number.copy.after ≡ record c.args.self.now { documents = raised_each c.args.floors.now c.args.self.now.documents }
whole c =
    let all : List DocumentRecord = raised_each c.args.floors.now c.args.self.now.documents in
    let long : length c.args.self.now.documents ≤ c.loop-number.number =
    subst (λ (l : List DocumentRecord). length l ≤ c.loop-number.number) c.documents-documents.ensures.documents
    (omega (arith, length-map c.documents-documents.result.now record_of, c.loop-number-test.false)) in
    c.loop-number.invariant
    ∙ ap (λ (l : List DocumentRecord). record { limits = c.args.self.now.limits; documents = l })
    (take_all c.loop-number.number all (omega (arith, long, raised-length c.args.floors.now c.args.self.now.documents)))

pub invariant_of-result : goal.invariant_of-result
invariant_of-result c = (
  ap (λ (p : PreparedState). p.after) c.accept.ensures ∙ sym (ap (λ (p : PreparedState). p.before) c.accept.ensures),
  subst IsState (sym (ap (λ (p : PreparedState). p.before) c.accept.ensures ∙ whole c)) (raised-is-state c.args.floors.now c.args.self.now c.limits.ensures.state),
)

pub returns : goal.returns
returns c = record { same = ap (λ (p : PreparedState). p.before) c.accept.ensures ∙ whole c }
