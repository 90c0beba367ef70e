-- A state that grows, document by document, and a running store whose state does.
use Rattle.std.proofs.Common.{◌≡◌, ℕ, zero, suc, ◌≤◌, true, List, [], ◌∷◌, ◌++◌, length, Option, Some, None, length-append, refl, sym, ap, subst, ◌∙◌, arith}
use Rattle.std.specs.Prelude.{◌&&◌, ◌==◌, nat_lt, is_none, slice_get}
use Rattle.std.proofs.lemmas.Bool.{and_parts, and_from, eqb-true, eqb-false, cond_both}
use Rattle.std.proofs.lemmas.List.{append_assoc, take-append-le}
use Rattle.std.proofs.lemmas.Option.{slice_get_within}
use Rattle.revision.specs.Command.{Taken}
use Rattle.revision.specs.State.{Limits, DocumentRecord, State, find, continues_by_name, continues, record_by_name, record_after, all_continue, record_after_all, has_room, grows, set_document, grown, all_grow, fold}
use Rattle.revision.proofs.CallerLemmas.{agreeing_continue}
use Rattle.history.specs.Entries.{of_document}
use Rattle.history.specs.Cell.{Cell, CellKeeps, record_of_cell, cells_at, OfOpen, OfBoth}
use Rattle.history.specs.Shown.{base_at, whole_at, whole_of, PlacesShow}
use Rattle.history.specs.Running.{IsCellOf}
use Rattle.history.specs.Law.{GrowsByDocuments, Commits}
use Rattle.history.proofs.Showing.{places-itself, record-all, records-agree, whole-append}
use Rattle.history.proofs.Counting.{after-append, of_document-append, continue-join}
pub use Rattle.revision.proofs.CallerLemmas.{limits-fold, all_keep as fold-is-state}

-- a document set, and the others
set-own : (number : ℕ) (document : DocumentRecord) (documents : List DocumentRecord) → number ≤ length documents
    → slice_get (set_document number (Some document) documents) number ≡ Some document
set-own zero document [] le = refl
set-own (suc number) document [] le = absurd (omega (arith, le))
set-own zero document (first ∷ others) le = refl
set-own (suc number) document (first ∷ others) le = set-own number document others (omega (arith, le))

set-other : (number : ℕ) (document : Option DocumentRecord) (documents : List DocumentRecord) (other : ℕ) → (number ≡ other → ⊥)
    → slice_get (set_document number document documents) other ≡ slice_get documents other
set-other zero None documents other differ = refl
set-other (suc number) None documents other differ = refl
set-other zero (Some document) [] zero differ = absurd (differ refl)
set-other zero (Some document) [] (suc other) differ = refl
set-other (suc number) (Some document) [] other differ = refl
set-other zero (Some document) (first ∷ others) zero differ = absurd (differ refl)
set-other zero (Some document) (first ∷ others) (suc other) differ = refl
set-other (suc number) (Some document) (first ∷ others) zero differ = refl
set-other (suc number) (Some document) (first ∷ others) (suc other) differ = set-other number (Some document) others other (λ e. differ (ap suc e))

pub grown-own : (state : State) (taken : Taken) → grows state taken ≡ true
    → slice_get (grown state taken).documents taken.document ≡ record_after state.limits.keep (slice_get state.documents taken.document) taken
grown-own state taken h =
    let parts = and_parts (has_room state taken.document taken.name) _ h in
    by_kind (slice_get state.documents taken.document) taken.name refl parts.0 parts.1
  where
    by_kind : (found : Option DocumentRecord) (name : Option (List ℕ)) → slice_get state.documents taken.document ≡ found → has_room state taken.document name ≡ true
        → continues_by_name state.limits found taken name ≡ true
        → slice_get (set_document taken.document (record_by_name state.limits.keep found taken name) state.documents) taken.document ≡ record_by_name state.limits.keep found taken name
    by_kind None None there room next = absurd (cc)
    by_kind (Some found) (Some name) there room next = absurd (cc)
    by_kind (Some found) None there room next =
        set-own taken.document _ state.documents (omega (arith, slice_get_within state.documents taken.document found there))
    by_kind None (Some name) there room next =
        let fresh = and_parts ((taken.document == length state.documents) && nat_lt (length state.documents) state.limits.docs) (is_none (find name 0 state.documents)) room in
        let place = and_parts (taken.document == length state.documents) (nat_lt (length state.documents) state.limits.docs) fresh.0 in
        set-own taken.document _ state.documents (omega (arith, eqb-true _ _ place.0))

-- one command, read by documents
abbrev one_of : ℕ → Taken → List Taken
one_of number taken = of_document number (taken ∷ [])

grows-one : (state : State) (taken : Taken) → grows state taken ≡ true → (number : ℕ)
    → (all_continue state.limits (slice_get state.documents number) (one_of number taken) ≡ true)
    × (slice_get (grown state taken).documents number ≡ record_after_all state.limits.keep (slice_get state.documents number) (one_of number taken))
grows-one state taken h number =
    cond_both (taken.document == number) (taken ∷ []) [] (λ l. (all_continue state.limits (slice_get state.documents number) l ≡ true)
    × (slice_get (grown state taken).documents number ≡ record_after_all state.limits.keep (slice_get state.documents number) l))
    (λ e.
    let same : taken.document ≡ number = eqb-true taken.document number e in
    let parts = and_parts (has_room state taken.document taken.name) _ h in (
      and_from _ _ (subst (λ n. continues state.limits (slice_get state.documents n) taken ≡ true) same parts.1) refl,
      subst (λ n. slice_get (grown state taken).documents n ≡ record_after state.limits.keep (slice_get state.documents n) taken) same (grown-own state taken h),
    ))
    (λ e. (refl, set-other taken.document _ state.documents number (eqb-false taken.document number e)))

pub grows_by_documents : GrowsByDocuments
grows_by_documents state [] h number = (refl, refl)
grows_by_documents state (first ∷ others) h number =
    let parts = and_parts (grows state first) (all_grow (grown state first) others) h in
    let one = grows-one state first parts.0 number in
    let later = grows_by_documents (grown state first) others parts.1 number in
    let split : of_document number (first ∷ others) ≡ one_of number first ++ of_document number others = of_document-append number (first ∷ []) others in (
      subst (λ l. all_continue state.limits (slice_get state.documents number) l ≡ true) (sym split)
          (continue-join state.limits (slice_get state.documents number) (one_of number first) (of_document number others) one.0
          (subst (λ o. all_continue state.limits o (of_document number others) ≡ true) one.1 later.0)),
      later.1 ∙ (ap (λ o. record_after_all state.limits.keep o (of_document number others)) one.1
          ∙ (sym (after-append state.limits.keep (slice_get state.documents number) (one_of number first) (of_document number others))
          ∙ ap (record_after_all state.limits.keep (slice_get state.documents number)) (sym split))),
    )

-- a cell of a document stays one as the document continues
pub cell-longer : (base : Option DocumentRecord) (commands others : List Taken) (cell : Cell) → IsCellOf base commands cell → IsCellOf base (commands ++ others) cell
cell-longer base commands others cell of = record {
  count = of.count;
  within = omega (arith, of.within, length-append commands others);
  shows = subst (λ l. PlacesShow (whole_of base l) (Some (record_of_cell cell))) (sym (take-append-le of.count commands others of.within)) of.shows;
}

open-longer : (base : Option DocumentRecord) (commands others : List Taken) (cell : Option Cell) → OfOpen (IsCellOf base commands) cell
    → OfOpen (IsCellOf base (commands ++ others)) cell
open-longer base commands others None of = tt
open-longer base commands others (Some cell) of = cell-longer base commands others cell of

pub commits : Commits
commits order cells entries state batch runs h =
    let same = limits-fold state batch in
    let parts : (number : ℕ) → of_document number (order.taken ++ batch) ≡ of_document number order.taken ++ of_document number batch =
    λ number. of_document-append number order.taken batch in
    let grows_there = grows_by_documents state batch h in
    let goes_on : (number : ℕ) → all_continue state.limits (base_at order number) (of_document number order.taken ++ of_document number batch) ≡ true = λ number.
    let base = base_at order number in
    let shown = record-all state.limits base base (of_document number order.taken) (places-itself base) (runs.is_order number) in
    let agree = records-agree (whole_at order number) (slice_get state.documents number) (record_after_all state.limits.keep base (of_document number order.taken)) (runs.shows number) shown in
    continue-join state.limits base (of_document number order.taken) (of_document number batch) (runs.is_order number)
    (sym (agreeing_continue state.limits (slice_get state.documents number) (record_after_all state.limits.keep base (of_document number order.taken)) (of_document number batch) agree).0
    ∙ (grows_there number).0) in
    record {
      retired = runs.retired;
      held = ap (λ l. l ++ batch) runs.held ∙ append_assoc runs.retired entries batch;
      is_state = fold-is-state state batch runs.is_state h;
      pairs = runs.pairs ∙ ap (λ (l : Limits). l.docs) (sym same);
      start = λ number. subst (λ l. OfOpen (CellKeeps l) (slice_get order.start number)) (sym same) (runs.start number);
      is_order = λ number. subst (λ l. all_continue l (base_at order number) (of_document number (order.taken ++ batch)) ≡ true) (sym same)
          (subst (λ l. all_continue state.limits (base_at order number) l ≡ true) (sym (parts number)) (goes_on number));
      shows = λ number. subst (λ w. PlacesShow w (slice_get (fold state batch).documents number))
          (sym (whole-append (base_at order number) (of_document number order.taken) (of_document number batch)) ∙ ap (whole_of (base_at order number)) (sym (parts number)))
          (subst (PlacesShow (whole_of (whole_at order number) (of_document number batch))) (sym (grows_there number).1)
          (record-all state.limits (whole_at order number) (slice_get state.documents number) (of_document number batch) (runs.shows number) (grows_there number).0));
      cells_are = λ number. subst (λ l. OfBoth (IsCellOf (base_at order number) l) (cells_at cells number)) (sym (parts number))
          ((
            open-longer (base_at order number) (of_document number order.taken) (of_document number batch) (cells_at cells number).0 (runs.cells_are number).0,
            open-longer (base_at order number) (of_document number order.taken) (of_document number batch) (cells_at cells number).1 (runs.cells_are number).1,
          ));
      covered = runs.covered;
    }
