-- What a state gives of a document at a revision that it has reached, each later one gives too, or no longer holds it.
use Rattle.std.proofs.Common.{◌≡◌, ◌⊎◌, inl, inr, ℕ, zero, suc, ◌+◌, ◌-◌, ◌≤◌, max, Bool, true, false, cond, not, List, [], ◌∷◌, Option, Some, None, refl, sym, ap, subst, ◌∙◌, arith}
use Rattle.std.specs.Prelude.{◌++◌, ◌&&◌, OnOk, OnErr, bytes_eq, nat_lt, slice_get, slice_index_or, Result, Ok, Err}
use Rattle.std.proofs.lemmas.Bool.{ltb-false, le-ltb, lt-ltb}
use Rattle.std.proofs.lemmas.Option.{same_Some}
use Rattle.refusal.specs.declared.Refusal.{Refusal}
use Rattle.refusal.specs.declared.Refusal.TheVariants.{Deleted, Future, TooOld}
use Rattle.delta.specs.Element.{Element}
use Rattle.revision.specs.Command.{Taken}
use Rattle.revision.specs.declared.step.Step.{Step}
use Rattle.revision.specs.declared.step.Step.TheVariants.{Edits, Deletes, Revives}
use Rattle.revision.specs.Floors.{longer}
use Rattle.revision.specs.Past.{Past, Change, Content, newest, content_at, with_change, with_step}
use Rattle.revision.specs.Readings.{at_revision}
use Rattle.revision.specs.State.{DocumentRecord, State, revision_of, is_live, find, grows, grown, all_grow, fold, record_by_name, set_document, change_of}
use Rattle.revision.proofs.CallerLemmas.{from_twice, from_longer, step_makes}
use Rattle.session.specs.Shelf.{Kept, IsGiven, IsLater, FitsLater}

-- a change leaves what stood at each revision that is still held
content-stays : (keep : ℕ) (past : Past) (change : Change) (revision : ℕ) → (with_change keep past change).floor ≤ revision → revision ≤ newest past
    → content_at (with_change keep past change) revision ≡ content_at past revision
content-stays keep past change revision over within =
    let floor : ℕ = max past.floor (newest past + 1 - keep) in
    let above : past.floor ≤ floor = omega arith in
    let held : past.floor ≤ revision = omega (arith, over, above) in
    ap (λ (p : Past). p.content) (from_twice (longer past change) floor revision above over)
    ∙ ap (λ (p : Past). p.content) (sym (from_longer past revision change held within))

-- what is read of the units of a record at a revision
abbrev units_of_found : ℕ → Option (ℕ × DocumentRecord) → Result (List Element) Refusal
units_of_found revision found = at_revision revision found (λ past. (content_at past revision).units)

-- the document is there and deleted, and has reached the revision
record Gone (revision : ℕ) (there : Option (ℕ × DocumentRecord)) : Type 0 where
  pub deleted : units_of_found revision there ≡ Err Deleted
  pub number : ℕ
  pub found : DocumentRecord
  pub is : there ≡ Some (number, found)
  pub reached : revision ≤ revision_of found

-- such a reading gives these units, or the revision is no longer held, or the document was deleted since
abbrev Gives : ℕ → List Element → Option (ℕ × DocumentRecord) → Type 0
Gives revision units found = (units_of_found revision found ≡ Ok units) ⊎ (units_of_found revision found ≡ Err TooOld) ⊎ Gone revision found

-- the reading of a live document by its two tests, and of any by its mark
abbrev by_tests : Bool → Bool → List Element → Result (List Element) Refusal
by_tests future old units = cond future (Err Future) (cond old (Err TooOld) (Ok units))

abbrev by_mark : Bool → Bool → Bool → List Element → Result (List Element) Refusal
by_mark live future old units = cond (not live) (Err Deleted) (by_tests future old units)

-- one that gave units, or was too old, does so where fewer revisions are held and the units are the same in those that are
still : (future future' old old' : Bool) (units units' given : List Element)
    → (future ≡ false → future' ≡ false)
    → (future ≡ false → old' ≡ false → (old ≡ false) × (units' ≡ units))
    → (by_tests future old units ≡ Ok given) ⊎ (by_tests future old units ≡ Err TooOld)
    → (by_tests future' old' units' ≡ Ok given) ⊎ (by_tests future' old' units' ≡ Err TooOld)
still true future' old old' units units' given reached same (inl is) = cc
still true future' old old' units units' given reached same (inr is) = cc
still false future' old true units units' given reached same was = inr (ap (λ f. by_tests f true units') (reached refl))
still false future' old false units units' given reached same was =
    let held = same refl refl in
    let is : by_tests false false units ≡ by_tests future' false units' = ap (λ f. by_tests f false units) (sym (reached refl)) ∙ ap (by_tests future' false) (sym held.1) in
    from_held (ap (λ o. by_tests false o units) (sym held.0)) is was where
      from_held : by_tests false false units ≡ by_tests false old units → by_tests false false units ≡ by_tests future' false units'
          → (by_tests false old units ≡ Ok given) ⊎ (by_tests false old units ≡ Err TooOld)
          → (by_tests future' false units' ≡ Ok given) ⊎ (by_tests future' false units' ≡ Err TooOld)
      from_held a b (inl g) = inl (sym b ∙ (a ∙ g))
      from_held a b (inr g) = inr (sym b ∙ (a ∙ g))

-- a document gave units, or was too old, at a revision that it had reached
is-reached : (live future old : Bool) (units given : List Element) → (by_mark live future old units ≡ Ok given) ⊎ (by_mark live future old units ≡ Err TooOld)
    → future ≡ false
is-reached true false old units given was = refl
is-reached true true old units given (inl is) = absurd cc
is-reached true true old units given (inr is) = absurd cc
is-reached false future old units given (inl is) = absurd cc
is-reached false future old units given (inr is) = absurd cc

never-deleted : (future old : Bool) (units : List Element) → by_tests future old units ≡ Err Deleted → ⊥
never-deleted true old units is = cc
never-deleted false true units is = cc
never-deleted false false units is = cc

module _ (revision number : ℕ) (found : DocumentRecord) (units : List Element) where
  abbrev future : Bool
  future = nat_lt (newest found.past) revision

  abbrev old : Bool
  old = nat_lt revision found.past.floor

  abbrev there : List Element
  there = (content_at found.past revision).units

  reached : Gives revision units (Some (number, found)) → revision ≤ newest found.past
  reached (inl is) = ltb-false (newest found.past) revision (is-reached (is_live found) future old there units (inl is))
  reached (inr (inl is)) = ltb-false (newest found.past) revision (is-reached (is_live found) future old there units (inr is))
  reached (inr (inr gone)) =
      let both : (number, found) ≡ (gone.number, gone.found) = same_Some (number, found) (gone.number, gone.found) gone.is in
      omega (arith, gone.reached, ap (λ (p : ℕ × DocumentRecord). newest p.1.past) both)

  -- what is read of a live one
  live-reading : is_live found ≡ true → units_of_found revision (Some (number, found)) ≡ by_tests future old there
  live-reading live = ap (λ b. by_mark b future old there) live

  was-live : is_live found ≡ true → Gives revision units (Some (number, found)) → (by_tests future old there ≡ Ok units) ⊎ (by_tests future old there ≡ Err TooOld)
  was-live live (inl is) = inl (sym (live-reading live) ∙ is)
  was-live live (inr (inl is)) = inr (sym (live-reading live) ∙ is)
  was-live live (inr (inr gone)) = absurd (never-deleted future old there (sym (live-reading live) ∙ gone.deleted))

  now-live : is_live found ≡ true → (by_tests future old there ≡ Ok units) ⊎ (by_tests future old there ≡ Err TooOld) → Gives revision units (Some (number, found))
  now-live live (inl is) = inl (live-reading live ∙ is)
  now-live live (inr is) = inr (inl (live-reading live ∙ is))

-- an edit of the record leaves what is read at a revision that it had reached
gives-edited : (keep : ℕ) (change : Change) (revision number : ℕ) (found : DocumentRecord) (units : List Element)
    → Gives revision units (Some (number, found))
    → Gives revision units (Some (number, record found { past = with_change keep found.past change }))
gives-edited keep change revision number found units gives = by_live (is_live found) refl
  where
    past : Past
    past = found.past

    next : Past
    next = with_change keep past change

    after : DocumentRecord
    after = record found { past = next }

    longer_by : newest next ≡ newest past + 1
    longer_by = (step_makes keep past Edits change).0

    over : revision ≤ newest past
    over = reached revision number found units gives

    by_live : (live : Bool) → is_live found ≡ live → Gives revision units (Some (number, after))
    by_live false live = inr (inr (record {
      deleted = ap (λ b. by_mark b (nat_lt (newest next) revision) (nat_lt revision next.floor) (content_at next revision).units) live;
      number = number;
      found = after;
      is = refl;
      reached = omega (arith, over, longer_by);
    }))
    by_live true live =
        now-live revision number after units live
        (still (nat_lt (newest past) revision) (nat_lt (newest next) revision) (nat_lt revision past.floor) (nat_lt revision next.floor)
        (content_at past revision).units (content_at next revision).units units
        (λ within. le-ltb (newest next) revision (omega (arith, longer_by, over)))
        (λ within held.
        let low : next.floor ≤ revision = ltb-false revision next.floor held in
        (le-ltb revision past.floor (omega (arith, low)), ap (λ (c : Content). c.units) (content-stays keep past change revision low over)))
        (was-live revision number found units live gives))

-- a deletion leaves nothing to be read, and a creation again nothing of before
gives-stepped : (keep : ℕ) (step : Step) (change : Change) (revision number : ℕ) (found : DocumentRecord) (units : List Element)
    → Gives revision units (Some (number, found))
    → Gives revision units (Some (number, record found { past = with_step keep found.past step change }))
gives-stepped keep Edits change revision number found units gives = gives-edited keep change revision number found units gives
gives-stepped keep Deletes change revision number found units gives =
    inr (inr (record {
      deleted = refl;
      number = number;
      found = record found { past = with_step keep found.past Deletes change };
      is = refl;
      reached = omega (arith, reached revision number found units gives, (step_makes keep found.past Deletes change).0);
    }))
gives-stepped keep Revives change revision number found units gives =
    let next : Past = with_step keep found.past Revives change in
    let over : revision ≤ newest found.past = reached revision number found units gives in
    let within : nat_lt (newest next) revision ≡ false = le-ltb (newest next) revision (omega (arith, over, (step_makes keep found.past Revives change).0)) in
    let low : nat_lt revision next.floor ≡ true = lt-ltb revision next.floor (omega (arith, over)) in
    inr (inl (ap (λ f. by_tests f (nat_lt revision next.floor) (content_at next revision).units) within
    ∙ ap (λ o. by_tests false o (content_at next revision).units) low))

-- the document of a name, where another is set in the place of one that has its name
find-set : (name : List ℕ) (place number : ℕ) (documents : List DocumentRecord) (old new : DocumentRecord) (at : ℕ) (found : DocumentRecord)
    → slice_get documents place ≡ Some old → new.name ≡ old.name → find name number documents ≡ Some (at, found)
    → (find name number (set_document place (Some new) documents) ≡ Some (at, found))
    ⊎ ((find name number (set_document place (Some new) documents) ≡ Some (at, new)) × (found ≡ old))
find-set name place number [] old new at found there same is = cc
find-set name zero number (first ∷ others) old new at found there same is =
    let first_is : first ≡ old = same_Some first old there in
    (elim (bytes_eq first.name name) as (λ t. bytes_eq first.name name ≡ t → (find name number (new ∷ others) ≡ Some (at, found)) ⊎ ((find name number (new ∷ others) ≡ Some (at, new)) × (found ≡ old))) [
      | true ↦ λ t.
          let new_too : bytes_eq new.name name ≡ true = ap (λ n. bytes_eq n name) (same ∙ ap (λ (d : DocumentRecord). d.name) (sym first_is)) ∙ t in
          let both : (number, first) ≡ (at, found) = same_Some (number, first) (at, found) (sym (ap (λ b. cond b (Some (number, first)) (find name (number + 1) others)) t) ∙ is) in
          inr (ap (λ b. cond b (Some (number, new)) (find name (number + 1) others)) new_too ∙ ap (λ n. Some (n, new)) (ap (λ p. p.0) both), sym (ap (λ p. p.1) both) ∙ first_is)
      | false ↦ λ t.
          let new_too : bytes_eq new.name name ≡ false = ap (λ n. bytes_eq n name) (same ∙ ap (λ (d : DocumentRecord). d.name) (sym first_is)) ∙ t in
          inl (ap (λ b. cond b (Some (number, new)) (find name (number + 1) others)) new_too
          ∙ (sym (ap (λ b. cond b (Some (number, first)) (find name (number + 1) others)) t) ∙ is))
    ]) refl
find-set name (suc place) number (first ∷ others) old new at found there same is =
    (elim (bytes_eq first.name name) as (λ t. bytes_eq first.name name ≡ t → (find name number (first ∷ set_document place (Some new) others) ≡ Some (at, found))
    ⊎ ((find name number (first ∷ set_document place (Some new) others) ≡ Some (at, new)) × (found ≡ old))) [
      | true ↦ λ t. inl (ap (λ b. cond b (Some (number, first)) (find name (number + 1) (set_document place (Some new) others))) t
          ∙ (sym (ap (λ b. cond b (Some (number, first)) (find name (number + 1) others)) t) ∙ is))
      | false ↦ λ t. behind t (find-set name place (number + 1) others old new at found there same
          (sym (ap (λ b. cond b (Some (number, first)) (find name (number + 1) others)) t) ∙ is))
    ]) refl where
      step : bytes_eq first.name name ≡ false → find name number (first ∷ set_document place (Some new) others) ≡ find name (number + 1) (set_document place (Some new) others)
      step t = ap (λ b. cond b (Some (number, first)) (find name (number + 1) (set_document place (Some new) others))) t

      behind : bytes_eq first.name name ≡ false
          → (find name (number + 1) (set_document place (Some new) others) ≡ Some (at, found)) ⊎ ((find name (number + 1) (set_document place (Some new) others) ≡ Some (at, new)) × (found ≡ old))
          → (find name number (first ∷ set_document place (Some new) others) ≡ Some (at, found))
          ⊎ ((find name number (first ∷ set_document place (Some new) others) ≡ Some (at, new)) × (found ≡ old))
      behind t (inl e) = inl (step t ∙ e)
      behind t (inr (e, o)) = inr (step t ∙ e, o)

-- and where one is set behind all
find-behind : (name : List ℕ) (place number : ℕ) (documents : List DocumentRecord) (new : DocumentRecord) (at : ℕ) (found : DocumentRecord)
    → slice_get documents place ≡ None → find name number documents ≡ Some (at, found)
    → find name number (set_document place (Some new) documents) ≡ Some (at, found)
find-behind name place number [] new at found none is = cc
find-behind name zero number (first ∷ others) new at found none is = cc
find-behind name (suc place) number (first ∷ others) new at found none is =
    (elim (bytes_eq first.name name) as (λ t. bytes_eq first.name name ≡ t → find name number (first ∷ set_document place (Some new) others) ≡ Some (at, found)) [
      | true ↦ λ t. ap (λ b. cond b (Some (number, first)) (find name (number + 1) (set_document place (Some new) others))) t
          ∙ (sym (ap (λ b. cond b (Some (number, first)) (find name (number + 1) others)) t) ∙ is)
      | false ↦ λ t. ap (λ b. cond b (Some (number, first)) (find name (number + 1) (set_document place (Some new) others))) t
          ∙ find-behind name place (number + 1) others new at found none (sym (ap (λ b. cond b (Some (number, first)) (find name (number + 1) others)) t) ∙ is)
    ]) refl

-- a command more leaves what is given
gives-grown : (state : State) (taken : Taken) (name : List ℕ) (revision : ℕ) (units : List Element)
    → Gives revision units (find name 0 state.documents) → Gives revision units (find name 0 (grown state taken).documents)
gives-grown state taken name revision units = by_found (find name 0 state.documents) refl where
  place : ℕ
  place = taken.document

  keep : ℕ
  keep = state.limits.keep

  -- by what is in the command's place
  by_place : (there : Option DocumentRecord) (name_of : Option (List ℕ)) (at : ℕ) (found : DocumentRecord) → slice_get state.documents place ≡ there
      → find name 0 state.documents ≡ Some (at, found) → Gives revision units (Some (at, found))
      → Gives revision units (find name 0 (set_document place (record_by_name keep there taken name_of) state.documents))
  by_place None None at found none is gives = subst (Gives revision units) (sym is) gives
  by_place None (Some created) at found none is gives =
      subst (Gives revision units) (sym (find-behind name place 0 state.documents _ at found none is)) gives
  by_place (Some old) name_of at found there is gives =
      set_in (find-set name place 0 state.documents old (record old { past = with_step keep old.past taken.step (change_of taken) }) at found there refl is) where
        set_in : (find name 0 (set_document place (Some (record old { past = with_step keep old.past taken.step (change_of taken) })) state.documents) ≡ Some (at, found))
            ⊎ ((find name 0 (set_document place (Some (record old { past = with_step keep old.past taken.step (change_of taken) })) state.documents) ≡ Some (at, record old { past = with_step keep old.past taken.step (change_of taken) })) × (found ≡ old))
            → Gives revision units (find name 0 (set_document place (Some (record old { past = with_step keep old.past taken.step (change_of taken) })) state.documents))
        set_in (inl same) = subst (Gives revision units) (sym same) gives
        set_in (inr (new, was)) =
            subst (Gives revision units) (sym new)
            (gives-stepped keep taken.step (change_of taken) revision at old units (subst (λ (d : DocumentRecord). Gives revision units (Some (at, d))) was gives))

  by_found : (found : Option (ℕ × DocumentRecord)) → find name 0 state.documents ≡ found
      → Gives revision units (find name 0 state.documents) → Gives revision units (find name 0 (grown state taken).documents)
  by_found None is gives = nothing (subst (Gives revision units) is gives) where
    nothing : Gives revision units None → Gives revision units (find name 0 (grown state taken).documents)
    nothing (inl e) = cc
    nothing (inr (inl e)) = cc
    nothing (inr (inr gone)) = let none : None ≡ Some (gone.number, gone.found) = gone.is in absurd cc
  by_found (Some (at, found)) is gives =
      by_place (slice_get state.documents place) taken.name at found refl is (subst (Gives revision units) is gives)

given-gives : (state : State) (kept : Kept) → IsGiven state kept → Gives kept.revision kept.units (find kept.name 0 state.documents)
given-gives state kept (inl is) = inl is
given-gives state kept (inr (inl is)) = inr (inl is)
given-gives state kept (inr (inr gone)) =
    inr (inr (record { deleted = gone.deleted; number = gone.number; found = gone.found; is = gone.there; reached = gone.reached }))

gives-given : (state : State) (kept : Kept) → Gives kept.revision kept.units (find kept.name 0 state.documents) → IsGiven state kept
gives-given state kept (inl is) = inl is
gives-given state kept (inr (inl is)) = inr (inl is)
gives-given state kept (inr (inr gone)) =
    inr (inr (record { deleted = gone.deleted; number = gone.number; found = gone.found; there = gone.is; reached = gone.reached }))

-- and so do several
given-fold : (commands : List Taken) (state : State) (kept : Kept) → IsGiven state kept → IsGiven (fold state commands) kept
given-fold [] state kept given = given
given-fold (first ∷ others) state kept given =
    given-fold others (grown state first) kept
    (gives-given (grown state first) kept (gives-grown state first kept.name kept.revision kept.units (given-gives state kept given)))

pub fits_later : FitsLater
fits_later old new shelf (commands, grow, is) fits =
    λ k d below. subst (λ (s : State). IsGiven s (slice_index_or shelf k d)) (sym is) (given-fold commands old _ (fits k d below))

-- a state is later than another where a command was added to it, or where it is the same
pub later_by : {A E : Type 0} (old new : State) (taken : Taken) (result : Result A E) → grows old taken ≡ true
    → OnOk result (new ≡ grown old taken) → OnErr result (new ≡ old) → IsLater old new
later_by old new taken (Ok a) grow added same = (taken ∷ [], ap (λ b. b && true) grow, added)
later_by old new taken (Err e) grow added same = ([], refl, same)

and_both : (a b : Bool) → (a && b) ≡ true → (a ≡ true) × (b ≡ true)
and_both true b h = (refl, h)
and_both false b h = cc

-- commands behind others that grow the state
grow_joined : (front back : List Taken) (state : State) → all_grow state front ≡ true → all_grow (fold state front) back ≡ true
    → (all_grow state (front ++ back) ≡ true) × (fold state (front ++ back) ≡ fold (fold state front) back)
grow_joined [] back state grow more = (more, refl)
grow_joined (first ∷ others) back state grow more =
    let both = and_both (grows state first) (all_grow (grown state first) others) grow in
    let behind = grow_joined others back (grown state first) both.1 more in
    (rw (both.0, behind.0) refl, behind.1)

-- and later than each state that came before
pub later_still : (old mid new : State) → IsLater old mid → IsLater mid new → IsLater old new
later_still old mid new (front, grow, is) (back, more, so) =
    let joined = grow_joined front back old grow (subst (λ (s : State). all_grow s back ≡ true) is more) in
    (front ++ back, joined.0, so ∙ ap (λ (s : State). fold s back) is ∙ sym joined.1)
