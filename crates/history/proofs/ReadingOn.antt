-- Document by document: what is read so far, with the next one.
use Rattle.std.proofs.Common.{◌≡◌, ℕ, zero, suc, ◌+◌, ◌≤◌, ◌<◌, true, cond, List, [], ◌∷◌, ◌++◌, length, Option, Some, None, length-append, refl, sym, ap, subst, ◌∙◌, ⊎_elim, arith}
use Rattle.std.specs.Prelude.{◌&&◌, ◌==◌, nat_lt, nat_le, is_none, is_some, slice_get}
use Rattle.std.proofs.lemmas.Bool.{and_parts, eqb-true, leb-true, cond_both, cases_lt, eq-eqb, ne_eqb}
use Rattle.std.proofs.lemmas.Option.{slice_get_past}
use Rattle.revision.specs.Command.{Taken}
use Rattle.revision.specs.Sources.{count_of}
use Rattle.revision.specs.Past.{is_content}
use Rattle.revision.specs.State.{Limits, DocumentRecord, State, find, last_of_all, weight_of, is_mark_at, are_sources, continues_by_name, continues, record_by_name, record_after, all_continue, record_after_all, all_grow, fold, adopts}
use Rattle.revision.specs.Invariants.{IsState}
use Rattle.revision.proofs.CallerLemmas.{empty_is_state, adopting_keeps}
use Rattle.history.specs.Entries.{of_document, above}
use Rattle.history.specs.Cell.{Cell, record_of_cell, Pair, cells_at, Pick, picked, OfOpen, CellKeeps}
use Rattle.history.specs.Found.{started, unread, StandsFor}
use Rattle.history.specs.Reading.{HasRead, entered, enters, is_there, next_cell, next_entries, ReadingBegins, ReadingGoesOn, ReadingEnds}
use Rattle.history.proofs.Committing.{grows_by_documents, limits-fold, fold-is-state}

-- commands of one document
abbrev pub AreOf : ℕ → List Taken → Type 0
AreOf number [] = Unit {0}
AreOf number (first ∷ others) = (first.document ≡ number) × AreOf number others

of_document-of : (number : ℕ) (entries : List Taken) → AreOf number (of_document number entries)
of_document-of number [] = tt
of_document-of number (first ∷ others) =
    let later = of_document-of number others in
    cond_both (first.document == number) (first ∷ of_document number others) (of_document number others) (AreOf number)
    (λ e. (eqb-true first.document number e, later)) (λ e. later)

above-of : (number revision : ℕ) (entries : List Taken) → AreOf number entries → AreOf number (above revision entries)
above-of number revision [] of = tt
above-of number revision (first ∷ others) of =
    let later = above-of number revision others of.1 in
    cond_both (nat_lt revision first.revision) (first ∷ above revision others) (above revision others) (AreOf number) (λ e. (of.0, later)) (λ e. later)

pub unread-of : (number : ℕ) (cell : Option Cell) (entries : List Taken) → AreOf number (unread cell (of_document number entries))
unread-of number None entries = of_document-of number entries
unread-of number (Some cell) entries = above-of number cell.revision (of_document number entries) (of_document-of number entries)

own-all : (number : ℕ) (entries : List Taken) → AreOf number entries → of_document number entries ≡ entries
own-all number [] of = refl
own-all number (first ∷ others) of =
    ap (λ b. cond b (first ∷ of_document number others) (of_document number others)) (eq-eqb first.document number of.0)
    ∙ ap (λ l. first ∷ l) (own-all number others of.1)

other-none : (number other : ℕ) (entries : List Taken) → AreOf number entries → (number ≡ other → ⊥) → of_document other entries ≡ []
other-none number other [] of differ = refl
other-none number other (first ∷ others) of differ =
    ap (λ b. cond b (first ∷ of_document other others) (of_document other others)) (ne_eqb first.document other (λ e. differ (sym of.0 ∙ e)))
    ∙ other-none number other others of.1 differ

-- a document stays there as commands are added, and is there after a creation
after-some : (keep : ℕ) (found : DocumentRecord) (taken : Taken) (name : Option (List ℕ)) → is_some (record_by_name keep (Some found) taken name) ≡ true
after-some keep found taken None = refl
after-some keep found taken (Some name) = refl

pub stays-there : (keep : ℕ) (found : Option DocumentRecord) (others : List Taken) → is_some found ≡ true → is_some (record_after_all keep found others) ≡ true
stays-there keep found [] h = h
stays-there keep None (first ∷ others) h = absurd (cc)
stays-there keep (Some found) (first ∷ others) h = stays-there keep (record_after keep (Some found) first) others (after-some keep found first first.name)

pub is-there : (limits : Limits) (cell : Option Cell) (entries : List Taken) → is_there cell entries ≡ true
    → all_continue limits (started cell) (unread cell entries) ≡ true → is_some (record_after_all limits.keep (started cell) (unread cell entries)) ≡ true
is-there limits (Some cell) entries there h = stays-there limits.keep (Some (record_of_cell cell)) (above cell.revision entries) refl
is-there limits None [] there h = absurd (cc)
is-there limits None (first ∷ others) there h =
    stays-there limits.keep (record_after limits.keep None first) others
    (begun first.name (and_parts (continues limits None first) (all_continue limits (record_after limits.keep None first) others) h).0)
  where
    begun : (name : Option (List ℕ)) → continues_by_name limits None first name ≡ true → is_some (record_by_name limits.keep None first name) ≡ true
    begun None h = cc
    begun (Some name) h = refl

-- places of lists
some-within : {A : Type 0} (xs : List A) (n : ℕ) → is_some (slice_get xs n) ≡ true → n < length xs
some-within [] n h = absurd (cc)
some-within (x ∷ xs) zero h = omega arith
some-within (x ∷ xs) (suc n) h = omega (arith, some-within xs n h)

none-past : {A : Type 0} (xs : List A) (n : ℕ) → slice_get xs n ≡ None → length xs ≤ n
none-past [] n h = omega arith
none-past (x ∷ xs) zero h = absurd (cc)
none-past (x ∷ xs) (suc n) h = omega (arith, none-past xs n h)

pub at-end : {A : Type 0} (xs : List A) (x : A) → slice_get (xs ++ x ∷ []) (length xs) ≡ Some x
at-end [] x = refl
at-end (y ∷ xs) x = at-end xs x

before-end : {A : Type 0} (xs : List A) (x : A) (n : ℕ) → n < length xs → slice_get (xs ++ x ∷ []) n ≡ slice_get xs n
before-end [] x n lt = absurd (omega (arith, lt))
before-end (y ∷ xs) x zero lt = refl
before-end (y ∷ xs) x (suc n) lt = before-end xs x n (omega (arith, lt))

pub reading_begins : ReadingBegins
reading_begins limits cells entries pick is = record { is_state = empty_is_state limits is; each = λ number lt. absurd (omega (arith, lt)) }

-- the documents with the next one entered
module _ (cells : List Pair) (entries : List Taken) (pick : Pick) (state : State) (has : HasRead cells entries pick state) (documents : List DocumentRecord)
    (is : IsState (record state { documents = documents })) (cell : Option Cell) (is_next : next_cell cells pick state ≡ cell)
    (own : slice_get documents (length state.documents) ≡ started cell)
    (others : (number : ℕ) → number < length state.documents → slice_get documents number ≡ slice_get state.documents number)
    (count : length documents ≤ length state.documents + 1) (kept : OfOpen (CellKeeps state.limits) cell)
    (there : is_there cell (next_entries entries state) ≡ true)
    (grow : all_grow (record state { documents = documents }) (unread cell (next_entries entries state)) ≡ true) where
  abbrev next : ℕ
  next = length state.documents

  abbrev before : State
  before = record state { documents = documents }

  abbrev added : List Taken
  added = unread cell (next_entries entries state)

  abbrev after : State
  after = fold before added

  read-own : StandsFor state.limits cell (next_entries entries state) (slice_get after.documents next)
  read-own =
      let grown = grows_by_documents before added grow next in
      let all = own-all next added (unread-of next cell entries) in
      record {
        cell_keeps = kept;
        continue = subst (λ l. all_continue state.limits (started cell) l ≡ true) all
            (subst (λ o. all_continue state.limits o (of_document next added) ≡ true) own grown.0);
        is = grown.1 ∙ (ap (λ o. record_after_all state.limits.keep o (of_document next added)) own ∙ ap (record_after_all state.limits.keep (started cell)) all);
      }

  read-other : (number : ℕ) → (next ≡ number → ⊥) → slice_get after.documents number ≡ slice_get documents number
  read-other number differ =
      (grows_by_documents before added grow number).1
      ∙ ap (record_after_all state.limits.keep (slice_get documents number)) (other-none next number added (unread-of next cell entries) differ)

  read-count : length after.documents ≡ next + 1
  read-count =
      let last = some-within after.documents next
      (ap is_some read-own.is ∙ is-there state.limits cell (next_entries entries state) there read-own.continue) in
      let past = none-past after.documents (next + 1)
      (read-other (next + 1) (λ e. omega (arith, e)) ∙ slice_get_past documents (next + 1) count) in
      omega (arith, last, past)

  read-each : (number : ℕ) → number < length after.documents
      → StandsFor after.limits (picked pick (cells_at cells number)) (of_document number entries) (slice_get after.documents number)
  read-each number lt =
      subst (λ l. StandsFor l (picked pick (cells_at cells number)) (of_document number entries) (slice_get after.documents number)) (sym (limits-fold before added))
      (⊎_elim
      (λ (below : number < next).
      subst (StandsFor state.limits (picked pick (cells_at cells number)) (of_document number entries))
      (sym (read-other number (λ e. omega (arith, e, below)) ∙ others number below)) (has.each number below))
      (λ (top : next ≤ number).
      let same : next ≡ number = omega (arith, top, lt, read-count) in
      subst (λ n. StandsFor state.limits (picked pick (cells_at cells n)) (of_document n entries) (slice_get after.documents n)) same
      (subst (λ c. StandsFor state.limits c (next_entries entries state) (slice_get after.documents next)) (sym is_next) read-own))
      (cases_lt number next))

  has-read : HasRead cells entries pick after × (length after.documents ≡ next + 1)
  has-read = (record { is_state = fold-is-state before added is grow; each = read-each }, read-count)

-- what a cell keeps that may be added
adopts-keeps : (state : State) (cell : Cell) → adopts state cell.name cell.content cell.revision cell.sources ≡ true → CellKeeps state.limits cell
adopts-keeps state cell h =
    let light = and_parts (nat_lt (length state.documents) state.limits.docs && is_none (find cell.name 0 state.documents) && is_content cell.content && is_mark_at cell.content.live cell.revision && nat_le 1 cell.revision && nat_le cell.revision last_of_all
    && nat_le (count_of cell.sources) state.limits.sources && are_sources cell.revision cell.sources.entries) (nat_le (weight_of state.limits cell.content.units cell.sources) state.limits.weight) h in
    let sources = and_parts (nat_lt (length state.documents) state.limits.docs && is_none (find cell.name 0 state.documents) && is_content cell.content && is_mark_at cell.content.live cell.revision && nat_le 1 cell.revision && nat_le cell.revision last_of_all
    && nat_le (count_of cell.sources) state.limits.sources) _ light.0 in
    let count = and_parts (nat_lt (length state.documents) state.limits.docs && is_none (find cell.name 0 state.documents) && is_content cell.content && is_mark_at cell.content.live cell.revision && nat_le 1 cell.revision && nat_le cell.revision last_of_all) _ sources.0 in
    let last = and_parts (nat_lt (length state.documents) state.limits.docs && is_none (find cell.name 0 state.documents) && is_content cell.content && is_mark_at cell.content.live cell.revision && nat_le 1 cell.revision) _ count.0 in
    let first = and_parts (nat_lt (length state.documents) state.limits.docs && is_none (find cell.name 0 state.documents) && is_content cell.content
    && is_mark_at cell.content.live cell.revision) _ last.0 in
    let mark = and_parts (nat_lt (length state.documents) state.limits.docs && is_none (find cell.name 0 state.documents) && is_content cell.content) _ first.0 in
    let content = and_parts (nat_lt (length state.documents) state.limits.docs && is_none (find cell.name 0 state.documents)) _ mark.0 in
    record {
      first = leb-true _ _ first.1;
      last = leb-true _ _ last.1;
      count = leb-true _ _ count.1;
      sources = sources.1;
      content = content.1;
      mark = mark.1;
      weight = leb-true _ _ light.1;
    }

goes-on : (cells : List Pair) (entries : List Taken) (pick : Pick) (state : State) → HasRead cells entries pick state → (cell : Option Cell)
    → next_cell cells pick state ≡ cell → is_there cell (next_entries entries state) ≡ true → enters state cell ≡ true
    → all_grow (entered state cell) (unread cell (next_entries entries state)) ≡ true
    → HasRead cells entries pick (fold (entered state cell) (unread cell (next_entries entries state)))
    × (length (fold (entered state cell) (unread cell (next_entries entries state))).documents ≡ length state.documents + 1)
goes-on cells entries pick state has None is_next there enter grow =
    has-read cells entries pick state has state.documents has.is_state None is_next
    (slice_get_past state.documents (length state.documents) (omega arith)) (λ number lt. refl) (omega arith) tt there grow
goes-on cells entries pick state has (Some cell) is_next there enter grow =
    let new : DocumentRecord = record_of_cell cell in
    has-read cells entries pick state has (state.documents ++ new ∷ [])
    (adopting_keeps state cell.name cell.content cell.revision cell.sources has.is_state enter) (Some cell) is_next
    (at-end state.documents new) (before-end state.documents new) (omega (arith, length-append state.documents (new ∷ []))) (adopts-keeps state cell enter) there grow

pub reading_goes_on : ReadingGoesOn
reading_goes_on cells entries pick state has next =
    goes-on cells entries pick state has (next_cell cells pick state) refl next.there next.enters next.grow

pub reading_ends : ReadingEnds
reading_ends cells entries pick state has left = record {
  same_limits = refl;
  count = has.is_state.count;
  each = λ number. ⊎_elim
      (λ (below : number < length state.documents). has.each number below)
      (λ (past : length state.documents ≤ number).
      let none = left number past in
      subst (λ c. StandsFor state.limits c (of_document number entries) (slice_get state.documents number)) (sym none.0)
      (subst (λ l. StandsFor state.limits None l (slice_get state.documents number)) (sym none.1)
      (record { cell_keeps = tt; continue = refl; is = slice_get_past state.documents number past })))
      (cases_lt number (length state.documents));
  names = has.is_state.names;
}
