-- What is found by a name after a document was set, and what a source has there.
use Rattle.std.proofs.Common.{◌≡◌, ℕ, zero, suc, ◌+◌, Bool, true, false, cond, ◌&&◌, List, [], ◌∷◌, length, Option, Some, None, refl, sym, ap, ◌∙◌, subst, arith, inl, inr}
use Rattle.std.specs.Prelude.{◌⊎◌, ◌==◌, nat_lt, nat_le, bytes_eq, slice_get, is_none}
use Rattle.std.proofs.lemmas.Bool.{and_parts, eqb-true}
use Rattle.std.proofs.lemmas.Slice.Eq.{bytes_eq-Decides}
use Rattle.std.proofs.lemmas.Option.{some_pair_parts}
use Rattle.attributes.specs.Map.{empty}
use Rattle.revision.specs.Command.{Taken, edits}
use Rattle.revision.specs.declared.step.Step.{Step}
use Rattle.revision.specs.Window.{Window, taken_as}
use Rattle.revision.specs.Sources.{window_of, with_taken}
use Rattle.revision.specs.Past.{Change, Past, suits, empty_past, newest, sources_at, with_step}
use Rattle.revision.specs.State.{Limits, DocumentRecord, State, revision_of, units_of, sources_of, is_live, find, last_of_all, has_place, comes_next, keeps, begins, follows, continues_by_name, change_of, record_by_name, has_room, grows, set_document, grown}
use Rattle.revision.proofs.CallerLemmas.{step_makes}
use Rattle.world.specs.Law.{window_found}
use Rattle.world.proofs.CallerLemmas.{window_of-with_taken}

-- a window with a command
abbrev pub noted : Taken → Window → Window
noted taken window = taken_as taken.number taken.revision window

-- the sources of a document with one step more
sources-more : (keep : ℕ) (past : Past) (step : Step) (change : Change) → sources_at (with_step keep past step change) (newest (with_step keep past step change))
    ≡ with_taken change.source change.number (newest past + 1) (sources_at past (newest past))
sources-more keep past step change = ap (sources_at (with_step keep past step change)) (step_makes keep past step change).0 ∙ (step_makes keep past step change).2

-- What is found of a name where a document is set: that one, where the one before it was found, or what was found before.
find-changed : (name : List ℕ) (from number at : ℕ) (documents : List DocumentRecord) (found next : DocumentRecord) → at ≡ from + number
    → slice_get documents number ≡ Some found → next.name ≡ found.name
    → ((find name from documents ≡ Some (at, found)) × (find name from (set_document number (Some next) documents) ≡ Some (at, next)))
    ⊎ (find name from (set_document number (Some next) documents) ≡ find name from documents)
find-changed name from zero at [] found next place is same = absurd (cc)
find-changed name from (suc number) at [] found next place is same = absurd (cc)
find-changed name from zero at (first ∷ others) found next place is same = by_test (bytes_eq first.name name) refl
  where
    here : first ≡ found
    here = cc

    alike : bytes_eq next.name name ≡ bytes_eq first.name name
    alike = ap (λ (n : List ℕ). bytes_eq n name) (same ∙ ap (λ (d : DocumentRecord). d.name) (sym here))

    start : from ≡ at
    start = omega (arith, place)

    by_test : (b : Bool) → bytes_eq first.name name ≡ b
        → ((find name from (first ∷ others) ≡ Some (at, found)) × (find name from (next ∷ others) ≡ Some (at, next)))
        ⊎ (find name from (next ∷ others) ≡ find name from (first ∷ others))
    by_test true e = inl (
      ap (λ b. cond b (Some (from, first)) (find name (from + 1) others)) e ∙ (λ i. Some (start i, here i)),
      ap (λ b. cond b (Some (from, next)) (find name (from + 1) others)) (alike ∙ e) ∙ ap (λ n. Some (n, next)) start,
    )
    by_test false e = inr (
        ap (λ b. cond b (Some (from, next)) (find name (from + 1) others)) (alike ∙ e)
        ∙ sym (ap (λ b. cond b (Some (from, first)) (find name (from + 1) others)) e)
        )
find-changed name from (suc number) at (first ∷ others) found next place is same =
    by_test (bytes_eq first.name name) (find-changed name (from + 1) number at others found next (omega (arith, place)) is same)
  where
    by_test : (b : Bool)
        → ((find name (from + 1) others ≡ Some (at, found)) × (find name (from + 1) (set_document number (Some next) others) ≡ Some (at, next)))
        ⊎ (find name (from + 1) (set_document number (Some next) others) ≡ find name (from + 1) others)
        → ((cond b (Some (from, first)) (find name (from + 1) others) ≡ Some (at, found))
        × (cond b (Some (from, first)) (find name (from + 1) (set_document number (Some next) others)) ≡ Some (at, next)))
        ⊎ (cond b (Some (from, first)) (find name (from + 1) (set_document number (Some next) others)) ≡ cond b (Some (from, first)) (find name (from + 1) others))
    by_test true further = inr refl
    by_test false further = further

-- And where one is put behind all: that one, where none was found, or what was found before.
find-created : (name : List ℕ) (from at : ℕ) (documents : List DocumentRecord) (new : DocumentRecord) → at ≡ from + length documents
    → ((find name from documents ≡ None) × (find name from (set_document (length documents) (Some new) documents) ≡ Some (at, new)))
    ⊎ (find name from (set_document (length documents) (Some new) documents) ≡ find name from documents)
find-created name from at [] new place = by_test (bytes_eq new.name name)
  where
    start : from ≡ at
    start = omega (arith, place)

    by_test : (b : Bool) → ((find name from [] ≡ None) × (cond {A = Option (ℕ × DocumentRecord)} b (Some (from, new)) None ≡ Some (at, new)))
        ⊎ (cond {A = Option (ℕ × DocumentRecord)} b (Some (from, new)) None ≡ find name from [])
    by_test true = inl (refl, ap (λ n. Some (n, new)) start)
    by_test false = inr refl
find-created name from at (first ∷ others) new place = by_test (bytes_eq first.name name) (find-created name (from + 1) at others new (omega (arith, place)))
  where
    by_test : (b : Bool)
        → ((find name (from + 1) others ≡ None) × (find name (from + 1) (set_document (length others) (Some new) others) ≡ Some (at, new)))
        ⊎ (find name (from + 1) (set_document (length others) (Some new) others) ≡ find name (from + 1) others)
        → ((cond b (Some (from, first)) (find name (from + 1) others) ≡ None)
        × (cond b (Some (from, first)) (find name (from + 1) (set_document (length others) (Some new) others)) ≡ Some (at, new)))
        ⊎ (cond b (Some (from, first)) (find name (from + 1) (set_document (length others) (Some new) others)) ≡ cond b (Some (from, first)) (find name (from + 1) others))
    by_test true further = inr refl
    by_test false further = further

-- What a command leaves of a document that is found by a name: it is what it was; or it is the document of the command, and was if there
-- was one, and the command's source has the command there last, the next number after what it had, and each other source what it had.
abbrev pub Leaves : Taken → List ℕ → Option (ℕ × DocumentRecord) → Option (ℕ × DocumentRecord) → Type 0
Leaves taken source before after = (after ≡ before)
    ⊎ ((found : DocumentRecord) × (after ≡ Some (taken.document, found))
    × ((number : ℕ) (old : DocumentRecord) → before ≡ Some (number, old) → number ≡ taken.document)
    × (window_of source (sources_of found) ≡ cond (bytes_eq taken.source source) (noted taken (window_found source before)) (window_found source before))
    × (bytes_eq taken.source source ≡ true → taken.number ≡ (window_found source before).number + 1))

-- the parts of the test of a change, as far as numbers go
followed : (limits : Limits) (found : DocumentRecord) (taken : Taken) → follows limits found taken ≡ true
    → (taken.revision ≡ revision_of found + 1) × (taken.number ≡ (window_of taken.source (sources_of found)).number + 1)
followed limits found taken h =
    let both = and_parts (suits (is_live found) taken.step && comes_next limits (revision_of found) (sources_of found) taken)
    (keeps limits (units_of found) (sources_of found) taken) h in
    let fifth = and_parts (suits (is_live found) taken.step) (comes_next limits (revision_of found) (sources_of found) taken) both.0 in
    let fourth = and_parts _ (has_place limits taken.source (sources_of found)) fifth.1 in
    let third = and_parts _ (nat_le taken.number last_of_all) fourth.0 in
    let second = and_parts _ (taken.number == (window_of taken.source (sources_of found)).number + 1) third.0 in
    let first = and_parts (taken.revision == revision_of found + 1) _ second.0 in
    (eqb-true _ _ first.0, eqb-true _ _ second.1)

-- and of a creation
begun : (limits : Limits) (taken : Taken) → begins limits taken ≡ true → (taken.revision ≡ 1) × (taken.number ≡ 1)
begun limits taken h =
    let both = and_parts (edits taken.step && (taken.revision == 1) && (taken.number == 1)) (keeps limits [] empty taken) h in
    let numbers = and_parts (edits taken.step && (taken.revision == 1)) (taken.number == 1) both.0 in
    let first = and_parts (edits taken.step) (taken.revision == 1) numbers.0 in
    (eqb-true _ _ first.1, eqb-true _ _ numbers.1)

-- A source's window after a step of a past, whose revision is the next one.
pub window-changed : (keep : ℕ) (past : Past) (taken : Taken) (source : List ℕ) → taken.revision ≡ newest past + 1
    → window_of source (sources_at (with_step keep past taken.step (change_of taken)) (newest (with_step keep past taken.step (change_of taken))))
    ≡ cond (bytes_eq taken.source source) (noted taken (window_of source (sources_at past (newest past)))) (window_of source (sources_at past (newest past)))
window-changed keep past taken source next =
    ap (window_of source) (sources-more keep past taken.step (change_of taken))
    ∙ window_of-with_taken source taken.source taken.number (newest past + 1) (sources_at past (newest past))
    ∙ ap (λ r. cond (bytes_eq taken.source source) (taken_as taken.number r (window_of source (sources_at past (newest past)))) (window_of source (sources_at past (newest past)))) (sym next)

module _ (state : State) (taken : Taken) (name source : List ℕ) where
  -- a step of a document that is there
  leaves-changed : (found : DocumentRecord) → slice_get state.documents taken.document ≡ Some found → follows state.limits found taken ≡ true
      → Leaves taken source (find name 0 state.documents)
      (find name 0 (set_document taken.document (Some (record found { past = with_step state.limits.keep found.past taken.step (change_of taken) })) state.documents))
  leaves-changed found is next = by_place (find-changed name 0 taken.document taken.document state.documents found after (omega arith) is refl)
    where
      after : DocumentRecord
      after = record found { past = with_step state.limits.keep found.past taken.step (change_of taken) }

      by_place : ((find name 0 state.documents ≡ Some (taken.document, found)) × (find name 0 (set_document taken.document (Some after) state.documents) ≡ Some (taken.document, after)))
          ⊎ (find name 0 (set_document taken.document (Some after) state.documents) ≡ find name 0 state.documents)
          → Leaves taken source (find name 0 state.documents) (find name 0 (set_document taken.document (Some after) state.documents))
      by_place (inr same) = inl same
      by_place (inl here) =
          let numbers = followed state.limits found taken next in
          let before : window_of source (sources_of found) ≡ window_found source (find name 0 state.documents) = ap (window_found source) (sym here.0) in
          inr (
            after,
            here.1,
            λ number old is. (some_pair_parts number taken.document old found (sym is ∙ here.0)).0,
            window-changed state.limits.keep found.past taken source numbers.0 ∙ ap (λ w. cond (bytes_eq taken.source source) (noted taken w) w) before,
            λ same. numbers.1 ∙ ap (λ (s : List ℕ). (window_of s (sources_of found)).number + 1) ((bytes_eq-Decides taken.source source).0 same)
                ∙ ap (λ (w : Window). w.number + 1) before,
          )

  -- a creation
  leaves-created : (new : List ℕ) → taken.document ≡ length state.documents → begins state.limits taken ≡ true
      → Leaves taken source (find name 0 state.documents)
      (find name 0 (set_document taken.document (Some (record { name = new; past = with_step state.limits.keep empty_past taken.step (change_of taken) })) state.documents))
  leaves-created new last begins =
      by_place (subst (λ n. ((find name 0 state.documents ≡ None) × (find name 0 (set_document n (Some after) state.documents) ≡ Some (taken.document, after)))
      ⊎ (find name 0 (set_document n (Some after) state.documents) ≡ find name 0 state.documents)) (sym last)
      (find-created name 0 taken.document state.documents after (omega (arith, last))))
    where
      after : DocumentRecord
      after = record { name = new; past = with_step state.limits.keep empty_past taken.step (change_of taken) }

      by_place : ((find name 0 state.documents ≡ None) × (find name 0 (set_document taken.document (Some after) state.documents) ≡ Some (taken.document, after)))
          ⊎ (find name 0 (set_document taken.document (Some after) state.documents) ≡ find name 0 state.documents)
          → Leaves taken source (find name 0 state.documents) (find name 0 (set_document taken.document (Some after) state.documents))
      by_place (inr same) = inl same
      by_place (inl here) =
          let numbers = begun state.limits taken begins in
          let before : window_found source None ≡ window_found source (find name 0 state.documents) = ap (window_found source) (sym here.0) in
          inr (
            after,
            here.1,
            λ number old is. let none : None ≡ Some (number, old) = sym here.0 ∙ is in absurd (cc),
            window-changed state.limits.keep empty_past taken source numbers.0 ∙ ap (λ w. cond (bytes_eq taken.source source) (noted taken w) w) before,
            λ same. numbers.1 ∙ ap (λ (w : Window). w.number + 1) before,
          )

  -- A command that continues a state leaves so what is found by each name.
  pub grown-leaves : grows state taken ≡ true → Leaves taken source (find name 0 state.documents) (find name 0 (grown state taken).documents)
  grown-leaves h =
      let parts = and_parts (has_room state taken.document taken.name) _ h in
      by_kind (slice_get state.documents taken.document) taken.name refl parts.0 parts.1
    where
      by_kind : (found : Option DocumentRecord) (new : Option (List ℕ)) → slice_get state.documents taken.document ≡ found → has_room state taken.document new ≡ true
          → continues_by_name state.limits found taken new ≡ true
          → Leaves taken source (find name 0 state.documents) (find name 0 (set_document taken.document (record_by_name state.limits.keep found taken new) state.documents))
      by_kind None None there room next = absurd (cc)
      by_kind (Some found) (Some new) there room next = absurd (cc)
      by_kind (Some found) None there room next = leaves-changed found there next
      by_kind None (Some new) there room next =
          let fresh = and_parts ((taken.document == length state.documents) && nat_lt (length state.documents) state.limits.docs) (is_none (find new 0 state.documents)) room in
          let place = and_parts (taken.document == length state.documents) (nat_lt (length state.documents) state.limits.docs) fresh.0 in
          leaves-created new (eqb-true _ _ place.0) next
