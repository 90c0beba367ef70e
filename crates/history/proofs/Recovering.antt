-- What the parts of a running store stand for.
use Rattle.std.proofs.Common.{◌≡◌, ℕ, zero, suc, ◌+◌, ◌≤◌, true, List, [], ◌∷◌, ◌++◌, length, Option, Some, None, refl, sym, ap, subst, ◌∙◌, arith}
use Rattle.std.specs.Prelude.{slice_get}
use Rattle.revision.specs.Command.{Taken}
use Rattle.revision.specs.State.{Limits, DocumentRecord, State, newest_revision, all_continue, record_after_all}
use Rattle.revision.specs.Agree.{PlacesAgree}
use Rattle.revision.specs.Invariants.{IsLimits, IsPast, IsRecord, NamesDiffer}
use Rattle.revision.proofs.CallerLemmas.{continuing_keeps}
use Rattle.history.specs.Entries.{of_document}
use Rattle.history.specs.Cell.{Cell, CellKeeps, Pair, cells_at, Pick, picked, OfOpen}
use Rattle.history.specs.Shown.{Order, base_at, whole_at, whole_of, PlacesShow}
use Rattle.history.specs.Found.{started, unread, StandsFor, StandFor}
use Rattle.history.specs.Running.{IsCellOf, IsCellAt, Runs}
use Rattle.history.specs.Law.{StandIsState, ShowingAgree, Recovers, Reopens}
use Rattle.history.proofs.Showing.{records-agree}
use Rattle.history.proofs.Counting.{of_document-append}
use Rattle.history.proofs.OneDocument.{started-kept, picked-covers, picked-of, one-stands}

pub showing_agree : ShowingAgree
showing_agree order s t limits first second = record {
  limits = limits;
  documents = λ number. records-agree (whole_at order number) (slice_get s.documents number) (slice_get t.documents number) (first number) (second number);
}

found-kept : (limits : Limits) (cell : Option Cell) (entries : List Taken) (found : Option DocumentRecord) → IsLimits limits → StandsFor limits cell entries found
    → IsRecord limits found
found-kept limits cell entries found is stands =
    subst (IsRecord limits) (sym stands.is)
    (continuing_keeps limits (started cell) (unread cell entries) is (started-kept limits cell is stands.cell_keeps) stands.continue)

pub stand_is_state : StandIsState
stand_is_state limits cells entries pick state is stand = record {
  limits = subst IsLimits (sym stand.same_limits) is;
  count = subst (λ (l : Limits). length state.documents ≤ l.docs) (sym stand.same_limits) stand.count;
  names = stand.names;
  each = λ number found here.
      subst (λ l. IsPast l found.past) (sym stand.same_limits)
      (subst (IsRecord limits) here (found-kept limits (picked pick (cells_at cells number)) (of_document number entries) (slice_get state.documents number) is (stand.each number)));
}

-- each document that is found
module _ (order : Order) (cells : List Pair) (entries : List Taken) (state : State) (pick : Pick) (runs : Runs order cells entries state) where
  abbrev pub found_at : ℕ → Option DocumentRecord
  found_at number =
      let cell = picked pick (cells_at cells number) in
      record_after_all state.limits.keep (started cell) (unread cell (of_document number entries))

  in-parts : (number : ℕ) → of_document number order.taken ≡ of_document number runs.retired ++ of_document number entries
  in-parts number = ap (of_document number) runs.held ∙ of_document-append number runs.retired entries

  found-stands : (number : ℕ) → StandsFor state.limits (picked pick (cells_at cells number)) (of_document number entries) (found_at number)
      × PlacesShow (whole_at order number) (found_at number)
  found-stands number =
      let parts = in-parts number in
      let cell = picked pick (cells_at cells number) in
      let base = base_at order number in
      let of : OfOpen (IsCellAt order number) cell = picked-of (IsCellAt order number) pick (cells_at cells number) (runs.cells_are number) in
      let stands = one-stands state.limits runs.is_state.limits base (started-kept state.limits (slice_get order.start number) runs.is_state.limits (runs.start number))
      (of_document number runs.retired) (of_document number entries)
      (subst (λ l. all_continue state.limits base l ≡ true) parts (runs.is_order number)) cell
      (subst (λ l. OfOpen (IsCellOf base l) cell) parts of)
      (picked-covers (newest_revision base + length (of_document number runs.retired)) pick (cells_at cells number) (runs.covered number)) in
      (stands.0, subst (λ l. PlacesShow (whole_of base l) (found_at number)) (sym parts) stands.1)

  found-agree : (number : ℕ) → PlacesAgree (found_at number) (slice_get state.documents number)
  found-agree number =
      records-agree (whole_at order number) (found_at number) (slice_get state.documents number) (found-stands number).1 (runs.shows number)

-- documents that agree with those of a list make a list
abbrev DocumentList : (ℕ → Option DocumentRecord) → List DocumentRecord → Type 0
DocumentList found documents = (list : List DocumentRecord) × ((number : ℕ) → slice_get list number ≡ found number) × (length list ≡ length documents)

none-there : (found : Option DocumentRecord) → PlacesAgree found None → None ≡ found
none-there None agree = refl
none-there (Some a) agree = absurd agree

document_list-more : (found : ℕ → Option DocumentRecord) (document : DocumentRecord) (others : List DocumentRecord) (first : Option DocumentRecord) → first ≡ found 0
    → PlacesAgree first (Some document) → DocumentList (λ number. found (suc number)) others → DocumentList found (document ∷ others)
document_list-more found document others None is agree later = absurd agree
document_list-more found document others (Some a) is agree later = (a ∷ later.0, each, ap suc later.2)
  where
    each : (number : ℕ) → slice_get (a ∷ later.0) number ≡ found number
    each zero = is
    each (suc number) = later.1 number

document_list : (found : ℕ → Option DocumentRecord) (documents : List DocumentRecord) → ((number : ℕ) → PlacesAgree (found number) (slice_get documents number)) → DocumentList found documents
document_list found [] each = ([], (λ number. none-there (found number) (each number)), refl)
document_list found (document ∷ others) each =
    document_list-more found document others (found 0) refl (each 0) (document_list (λ number. found (suc number)) others (λ number. each (suc number)))

-- names of documents that agree with documents of names that differ
there-named : (a : DocumentRecord) (place : Option DocumentRecord) → PlacesAgree (Some a) place → (b : DocumentRecord) × (place ≡ Some b) × (a.name ≡ b.name)
there-named a None agree = absurd agree
there-named a (Some b) agree = (b, refl, agree.name)

names-differ : (list documents : List DocumentRecord) → ((number : ℕ) → PlacesAgree (slice_get list number) (slice_get documents number)) → NamesDiffer documents → NamesDiffer list
names-differ list documents each differ i j a b here there same =
    let first = there-named a (slice_get documents i) (subst (λ o. PlacesAgree o (slice_get documents i)) here (each i)) in
    let second = there-named b (slice_get documents j) (subst (λ o. PlacesAgree o (slice_get documents j)) there (each j)) in
    differ i j first.0 second.0 first.1 second.1 (sym first.2 ∙ (same ∙ second.2))

pub recovers : Recovers
recovers order cells entries state pick runs =
    let agree : (number : ℕ) → PlacesAgree (found_at order cells entries state pick runs number) (slice_get state.documents number) =
    found-agree order cells entries state pick runs in
    let list = document_list (found_at order cells entries state pick runs) state.documents agree in
    let places : (number : ℕ) → PlacesAgree (slice_get list.0 number) (slice_get state.documents number) =
    λ number. subst (λ o. PlacesAgree o (slice_get state.documents number)) (sym (list.1 number)) (agree number) in
    let stand : StandFor state.limits cells entries pick (record { limits = state.limits; documents = list.0 }) = record {
      same_limits = refl;
      count = omega (arith, list.2, runs.is_state.count);
      each = λ number.
          subst (StandsFor state.limits (picked pick (cells_at cells number)) (of_document number entries)) (sym (list.1 number))
          (found-stands order cells entries state pick runs number).0;
      names = names-differ list.0 state.documents places runs.is_state.names;
    } in
    (record { limits = state.limits; documents = list.0 }, stand, record { limits = refl; documents = places })

pub reopens : Reopens
reopens order cells entries state pick found runs stand =
    let same = stand.same_limits in
    record {
      retired = runs.retired;
      held = runs.held;
      is_state = stand_is_state state.limits cells entries pick found runs.is_state.limits stand;
      pairs = runs.pairs ∙ ap (λ (l : Limits). l.docs) (sym same);
      start = λ number. subst (λ l. OfOpen (CellKeeps l) (slice_get order.start number)) (sym same) (runs.start number);
      is_order = λ number. subst (λ l. all_continue l (base_at order number) (of_document number order.taken) ≡ true) (sym same) (runs.is_order number);
      shows = λ number. subst (PlacesShow (whole_at order number)) (sym (stand.each number).is) (found-stands order cells entries state pick runs number).1;
      cells_are = runs.cells_are;
      covered = runs.covered;
    }
