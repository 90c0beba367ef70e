-- Where the parts stand for a state, each of its documents is read, and nothing is left.
use Rattle.std.proofs.Common.{◌≡◌, ℕ, zero, suc, ◌+◌, ◌≤◌, ◌<◌, Bool, true, false, cond, List, [], ◌∷◌, length, Option, Some, None, refl, sym, ap, subst, ◌∙◌, ⊎_elim, arith}
use Rattle.std.specs.Prelude.{is_none, is_some, bytes_eq, unwrap_or, slice_get}
use Rattle.std.proofs.lemmas.Bool.{and_parts, and_from, both_ways, lt-ltb, le-leb, eq-eqb, cases_lt}
use Rattle.std.proofs.lemmas.Option.{slice_get_past, slice_get_within}
use Rattle.std.proofs.lemmas.Slice.Eq.{bytes_eq-Decides}
use Rattle.revision.specs.Command.{Taken}
use Rattle.revision.specs.State.{Limits, DocumentRecord, State, find, continues_by_name, continues, record_by_name, record_after, all_continue, record_after_all, has_room, grows, grown, all_grow}
use Rattle.history.specs.Entries.{of_document}
use Rattle.history.specs.Cell.{Cell, record_of_cell, Pair, cells_at, Pick, picked, CellKeeps}
use Rattle.history.specs.Found.{unread, StandsFor, StandFor}
use Rattle.history.specs.Reading.{HasRead, entered, enters, is_there, next_cell, next_entries, ReadsNext, NothingLeft, ReadingFinds}
use Rattle.history.proofs.OneState.{same_list}
use Rattle.history.proofs.Committing.{grown-own}
use Rattle.history.proofs.ReadingOn.{AreOf, unread-of, is-there, at-end}

-- a name that no document has isn't found
unfound : (name : List ℕ) (number : ℕ) (documents : List DocumentRecord) → ((i : ℕ) (a : DocumentRecord) → slice_get documents i ≡ Some a → a.name ≡ name → ⊥)
    → is_none (find name number documents) ≡ true
unfound name number [] none = refl
unfound name number (first ∷ others) none = by_test (bytes_eq first.name name) refl (unfound name (number + 1) others (λ i a here. none (suc i) a here))
  where
    by_test : (b : Bool) → bytes_eq first.name name ≡ b → is_none (find name (number + 1) others) ≡ true
        → is_none (cond b (Some (number, first)) (find name (number + 1) others)) ≡ true
    by_test true is later = absurd (none 0 first refl ((bytes_eq-Decides first.name name).0 is))
    by_test false is later = later

-- the name of a document stays
name-after : (keep : ℕ) (found : DocumentRecord) (taken : Taken) (name : Option (List ℕ))
    → (later : DocumentRecord) × (record_by_name keep (Some found) taken name ≡ Some later) × (later.name ≡ found.name)
name-after keep found taken None = (_, refl, refl)
name-after keep found taken (Some name) = (_, refl, refl)

name-stays : (keep : ℕ) (found : DocumentRecord) (others : List Taken) (last : DocumentRecord) → record_after_all keep (Some found) others ≡ Some last → last.name ≡ found.name
name-stays keep found [] last h = ap (λ o. (unwrap_or o last).name) (sym h)
name-stays keep found (first ∷ others) last h =
    let one = name-after keep found first first.name in
    name-stays keep one.0 others last (subst (λ o. record_after_all keep o others ≡ Some last) one.1 h) ∙ one.2

-- commands that continue a document that is there make the state grow
room-there : (state : State) (limits : Limits) (found : DocumentRecord) (taken : Taken) (number : ℕ) (name : Option (List ℕ))
    → continues_by_name limits (Some found) taken name ≡ true → has_room state number name ≡ true
room-there state limits found taken number None h = refl
room-there state limits found taken number (Some name) h = absurd (cc)

grows-there : (state : State) (number : ℕ) (found : DocumentRecord) (taken : Taken) → slice_get state.documents number ≡ Some found → taken.document ≡ number
    → continues state.limits (Some found) taken ≡ true → grows state taken ≡ true
grows-there state number found taken here is h =
    and_from _ _ (room-there state state.limits found taken taken.document taken.name h)
    (subst (λ o. continues state.limits o taken ≡ true) (sym (ap (slice_get state.documents) is ∙ here)) h)

all-grow-there : (state : State) (number : ℕ) (found : DocumentRecord) (others : List Taken) → slice_get state.documents number ≡ Some found → AreOf number others
    → all_continue state.limits (Some found) others ≡ true → all_grow state others ≡ true
all-grow-there state number found [] here of h = refl
all-grow-there state number found (first ∷ others) here of h =
    let parts = and_parts (continues state.limits (Some found) first) (all_continue state.limits (record_after state.limits.keep (Some found) first) others) h in
    let one = grows-there state number found first here of.0 parts.0 in
    let next = name-after state.limits.keep found first first.name in
    let own : slice_get (grown state first).documents number ≡ Some next.0 =
    ap (slice_get (grown state first).documents) (sym of.0)
    ∙ (grown-own state first one ∙ (ap (λ o. record_after state.limits.keep o first) (ap (slice_get state.documents) of.0 ∙ here) ∙ next.1)) in
    and_from _ _ one (all-grow-there (grown state first) number next.0 others own of.1
    (subst (λ o. all_continue state.limits o others ≡ true) next.1 parts.1))

-- a creation, where there is room and the name is new
begun-record : (limits : Limits) (taken : Taken) (name : Option (List ℕ)) → continues_by_name limits None taken name ≡ true
    → (first : DocumentRecord) × (record_by_name limits.keep None taken name ≡ Some first) × (name ≡ Some first.name)
begun-record limits taken None h = absurd (cc)
begun-record limits taken (Some name) h = (_, refl, refl)

all-grow-new : (state : State) (others : List Taken) (last : DocumentRecord) → AreOf (length state.documents) others
    → length state.documents < state.limits.docs → is_none (find last.name 0 state.documents) ≡ true → all_continue state.limits None others ≡ true
    → record_after_all state.limits.keep None others ≡ Some last → all_grow state others ≡ true
all-grow-new state [] last of room fresh h is = refl
all-grow-new state (first ∷ others) last of room fresh h is =
    let next : ℕ = length state.documents in
    let parts = and_parts (continues state.limits None first) (all_continue state.limits (record_after state.limits.keep None first) others) h in
    let begun = begun-record state.limits first first.name parts.0 in
    let named : last.name ≡ begun.0.name = name-stays state.limits.keep begun.0 others last (subst (λ o. record_after_all state.limits.keep o others ≡ Some last) begun.1 is) in
    let free : is_none (find begun.0.name 0 state.documents) ≡ true = subst (λ n. is_none (find n 0 state.documents) ≡ true) named fresh in
    let none : slice_get state.documents first.document ≡ None = ap (slice_get state.documents) of.0 ∙ slice_get_past state.documents next (omega arith) in
    let has : has_room state first.document first.name ≡ true =
    subst (λ n. has_room state first.document n ≡ true) (sym begun.2)
    (and_from _ _ (and_from _ _ (eq-eqb first.document next of.0) (lt-ltb next state.limits.docs room)) free) in
    let one : grows state first ≡ true = and_from _ _ has (subst (λ o. continues state.limits o first ≡ true) (sym none) parts.0) in
    let own : slice_get (grown state first).documents next ≡ Some begun.0 =
    ap (slice_get (grown state first).documents) (sym of.0)
    ∙ (grown-own state first one ∙ (ap (λ o. record_after state.limits.keep o first) none ∙ begun.1)) in
    and_from _ _ one (all-grow-there (grown state first) next begun.0 others own of.1 (subst (λ o. all_continue state.limits o others ≡ true) begun.1 parts.1))

-- a document that is there
pub some-there : {A : Type 0} (xs : List A) (n : ℕ) → n < length xs → (x : A) × (slice_get xs n ≡ Some x)
some-there [] n lt = absurd (omega (arith, lt))
some-there (x ∷ xs) zero lt = (x, refl)
some-there (x ∷ xs) (suc n) lt = some-there xs n (omega (arith, lt))

next-none : (state : State) (last : DocumentRecord) (entries : List Taken) → length state.documents < state.limits.docs → is_none (find last.name 0 state.documents) ≡ true
    → StandsFor state.limits None entries (Some last) → AreOf (length state.documents) entries
    → (is_there None entries ≡ true) × (enters state None ≡ true) × (all_grow (entered state None) entries ≡ true)
next-none state last entries room fresh stands of =
    (there entries (sym stands.is), refl, all-grow-new state entries last of room fresh stands.continue (sym stands.is))
  where
    there : (entries : List Taken) → record_after_all state.limits.keep None entries ≡ Some last → is_there None entries ≡ true
    there [] is = absurd (cc)
    there (first ∷ others) is = refl

next-some : (state : State) (last : DocumentRecord) (cell : Cell) (entries : List Taken) → length state.documents < state.limits.docs
    → is_none (find last.name 0 state.documents) ≡ true → StandsFor state.limits (Some cell) entries (Some last) → AreOf (length state.documents) (unread (Some cell) entries)
    → (is_there (Some cell) entries ≡ true) × (enters state (Some cell) ≡ true) × (all_grow (entered state (Some cell)) (unread (Some cell) entries) ≡ true)
next-some state last cell entries room fresh stands of =
    let kept : CellKeeps state.limits cell = stands.cell_keeps in
    let named : last.name ≡ cell.name = name-stays state.limits.keep (record_of_cell cell) (unread (Some cell) entries) last (sym stands.is) in
    let free : is_none (find cell.name 0 state.documents) ≡ true = subst (λ n. is_none (find n 0 state.documents) ≡ true) named fresh in (
      refl,
      and_from _ _ (and_from _ _ (and_from _ _ (and_from _ _ (and_from _ _ (and_from _ _ (and_from _ _ (and_from _ _ (lt-ltb _ _ room) free) kept.content) kept.mark)
          (le-leb _ _ kept.first)) (le-leb _ _ kept.last)) (le-leb _ _ kept.count)) kept.sources) (le-leb _ _ kept.weight),
      all-grow-there (entered state (Some cell)) (length state.documents) (record_of_cell cell) (unread (Some cell) entries)
          (at-end state.documents (record_of_cell cell)) of stands.continue,
    )

next-any : (state : State) (last : DocumentRecord) (cell : Option Cell) (number : ℕ) (entries : List Taken) → number ≡ length state.documents
    → length state.documents < state.limits.docs → is_none (find last.name 0 state.documents) ≡ true
    → StandsFor state.limits cell (of_document number entries) (Some last)
    → (is_there cell (of_document number entries) ≡ true) × (enters state cell ≡ true) × (all_grow (entered state cell) (unread cell (of_document number entries)) ≡ true)
next-any state last None number entries is room fresh stands =
    next-none state last (of_document number entries) room fresh stands (subst (λ n. AreOf n (of_document number entries)) is (unread-of number None entries))
next-any state last (Some cell) number entries is room fresh stands =
    next-some state last cell (of_document number entries) room fresh stands (subst (λ n. AreOf n (unread (Some cell) (of_document number entries))) is (unread-of number (Some cell) entries))

-- nothing stands where there is neither a cell nor an entry, and only there
nothing-there : (limits : Limits) (cell : Option Cell) (entries : List Taken) → StandsFor limits cell entries None → (cell ≡ None) × (entries ≡ [])
nothing-there limits None [] stands = (refl, refl)
nothing-there limits None (first ∷ others) stands =
    let some : is_some (record_after_all limits.keep None (first ∷ others)) ≡ true = is-there limits None (first ∷ others) refl stands.continue in
    let none : is_some (record_after_all limits.keep None (first ∷ others)) ≡ false = ap is_some (sym stands.is) in
    absurd (both_ways _ none some)
nothing-there limits (Some cell) entries stands =
    let some = is-there limits (Some cell) entries refl stands.continue in
    let none : is_some (record_after_all limits.keep (Some (record_of_cell cell)) (unread (Some cell) entries)) ≡ false = ap is_some (sym stands.is) in
    absurd (both_ways _ none some)

module _ (cells : List Pair) (entries : List Taken) (pick : Pick) (state found : State) (has : HasRead cells entries pick state)
    (stand : StandFor state.limits cells entries pick found) where
  same-below : (number : ℕ) → number < length state.documents → slice_get state.documents number ≡ slice_get found.documents number
  same-below number lt = (has.each number lt).is ∙ sym (stand.each number).is

  finds-next : length state.documents < length found.documents → ReadsNext cells entries pick state
  finds-next lt =
      let next : ℕ = length state.documents in
      let last = some-there found.documents next lt in
      let fresh : is_none (find last.0.name 0 state.documents) ≡ true =
      unfound last.0.name 0 state.documents (λ i a here same.
      let within = slice_get_within state.documents i a here in
      let place : i ≡ next = stand.names i next a last.0 (sym (same-below i within) ∙ here) last.1 same in
      omega (arith, within, place)) in
      let stands : StandsFor state.limits (next_cell cells pick state) (next_entries entries state) (Some last.0) =
      subst (StandsFor state.limits (next_cell cells pick state) (next_entries entries state)) last.1 (stand.each next) in
      let three = next-any state last.0 (next_cell cells pick state) next entries refl (omega (arith, lt, stand.count)) fresh stands in
      record { there = three.0; enters = three.1; grow = three.2 }

  finds-all : length found.documents ≤ length state.documents → (state ≡ found) × NothingLeft cells entries pick state
  finds-all le =
      let same : state.documents ≡ found.documents = same_list state.documents found.documents (λ number. ⊎_elim
      (λ (below : number < length state.documents). same-below number below)
      (λ (past : length state.documents ≤ number). slice_get_past state.documents number past ∙ sym (slice_get_past found.documents number (omega (arith, past, le))))
      (cases_lt number (length state.documents))) in (
        (λ i. record { limits = sym stand.same_limits i; documents = same i }),
        (λ number past. nothing-there state.limits (picked pick (cells_at cells number)) (of_document number entries)
            (subst (StandsFor state.limits (picked pick (cells_at cells number)) (of_document number entries)) (slice_get_past found.documents number (omega (arith, past, le)))
            (stand.each number))),
      )

pub reading_finds : ReadingFinds
reading_finds cells entries pick state found has stand =
    (finds-next cells entries pick state found has stand, finds-all cells entries pick state found has stand)
