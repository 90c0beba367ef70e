-- Edits that were moved on stay so, whatever is taken.
use Rattle.std.proofs.Common.{◌≡◌, ℕ, zero, suc, ◌+◌, ◌-◌, ◌≤◌, max, Option, Some, None, List, [], ◌∷◌, ◌++◌, length, take, drop, length-append, refl, sym, ap, ap₂, subst, ◌∙◌, arith, true}
use Rattle.std.specs.Prelude.{slice_get}
use Rattle.std.proofs.lemmas.Option.{same_Some}
use Rattle.std.proofs.lemmas.List.{map-append, length-map, length-drop, take_all, take-append-le, drop-append-le}
use Rattle.delta.specs.Operation.{Operation}
use Rattle.revision.specs.Command.{Step, Edits, Deletes, Revives, Taken}
use Rattle.xform.specs.After.{second_past}
use Rattle.revision.specs.Late.{late, HasRoom}
use Rattle.revision.specs.Past.{Past, Change, newest, deltas_of, deltas_above, with_change, with_step}
use Rattle.revision.specs.State.{DocumentRecord, State, change_of, record_after, find, set_document, grown}
use Rattle.revision.specs.Moved.{MovedEdit, IsLateIn, IsMovedPast, IsMovedIn, LateIsMoved, MovedStays}
use Rattle.revision.proofs.Floors.{newest-from, deltas-from}
use Rattle.revision.proofs.Room.{room-past}
use Rattle.revision.proofs.Taking.{found_at}

-- past some of these and then past the others
pub past_parts : (count : ℕ) (edit : List Operation) (since : List (List Operation)) → late (late edit (take count since)) (drop count since) ≡ late edit since
past_parts zero edit since = refl
past_parts (suc count) edit [] = refl
past_parts (suc count) edit (first ∷ others) = past_parts count (second_past first edit true) others

-- and there is room past the others
pub room_parts : (count : ℕ) (edit : List Operation) (since : List (List Operation)) → HasRoom edit since → HasRoom (late edit (take count since)) (drop count since)
room_parts zero edit since room = room
room_parts (suc count) edit [] room = room
room_parts (suc count) edit (first ∷ others) room = room_parts count (second_past first edit true) others (room-past first edit others room)

-- the others as a slice has them
rest_is : (count : ℕ) (since : List (List Operation)) → take (length since - count) (drop count since) ≡ drop count since
rest_is count since = take_all (length since - count) (drop count since) (omega (arith, length-drop count since))

pub room_rest : (count : ℕ) (edit delta : List Operation) (since : List (List Operation)) → HasRoom edit since → delta ≡ late edit (take count since)
    → HasRoom delta (take (length since - count) (drop count since))
room_rest count edit delta since room is =
    subst (HasRoom delta) (sym (rest_is count since)) (subst (λ d. HasRoom d (drop count since)) (sym is) (room_parts count edit since room))

pub past_rest : (count : ℕ) (edit delta : List Operation) (since : List (List Operation)) → delta ≡ late edit (take count since)
    → late delta (take (length since - count) (drop count since)) ≡ late edit since
past_rest count edit delta since is = ap₂ late is (rest_is count since) ∙ past_parts count edit since

-- how many deltas there are above a revision
pub above-count : (past : Past) (revision : ℕ) → past.floor ≤ revision → revision ≤ newest past → revision + length (deltas_above past revision) ≡ newest past
above-count past revision held made =
    omega (arith, held, made, length-drop (revision - past.floor) (deltas_of past), length-map past.changes (λ (c : Change). c.delta))

pub late_is_moved : LateIsMoved
late_is_moved state l is = record {
  found = is.found;
  there = is.there;
  past = λ held. (
    omega (arith, above-count is.found.past l.base is.held is.made, ap length is.since),
    ap (late l.edit) (is.since ∙ (sym (take_all (length (deltas_above is.found.past l.base)) (deltas_above is.found.past l.base) (omega arith)) ∙ ap (λ since. take (length since) (deltas_above is.found.past l.base)) (sym is.since))),
  );
}

-- the first deltas above a revision stay where there is one more
first-stay : (past : Past) (change : Change) (revision count : ℕ) → past.floor ≤ revision → revision + count ≤ newest past
    → take count (deltas_above (record past { changes = past.changes ++ change ∷ [] }) revision) ≡ take count (deltas_above past revision)
first-stay past change revision count held made =
    let k : ℕ = revision - past.floor in
    let deltas : List (List Operation) = deltas_of past in
    let counted : length deltas ≡ length past.changes = length-map past.changes (λ (c : Change). c.delta) in
    let inside : k ≤ length deltas = omega (arith, held, made, counted) in
    let enough : count ≤ length (drop k deltas) = omega (arith, held, made, counted, length-drop k deltas) in
    ap (λ l. take count (drop k l)) (map-append (λ (c : Change). c.delta) past.changes (change ∷ []))
    ∙ (ap (take count) (drop-append-le k deltas (change.delta ∷ []) inside) ∙ take-append-le count (drop k deltas) (change.delta ∷ []) enough)

module _ (m : MovedEdit) (past : Past) (is : IsMovedPast past m) (change : Change) where
  moved-change : (keep : ℕ) → IsMovedPast (with_change keep past change) m
  moved-change keep held =
      let more : Past = record past { changes = past.changes ++ change ∷ [] } in
      let floor : ℕ = max past.floor (newest past + 1 - keep) in
      let one-more : newest more ≡ newest past + 1 = omega (arith, length-append past.changes (change ∷ [])) in
      let above : past.floor ≤ floor = omega arith in
      let reached : floor ≤ newest more = omega (arith, one-more) in
      let below : past.floor ≤ m.base = omega (arith, above, held) in
      let before = is below in (
        omega (arith, before.0, one-more, newest-from more floor above reached),
        before.1 ∙ ap (late m.edit) (sym (ap (take m.count) (deltas-from more floor above m.base held) ∙ first-stay past change m.base m.count below before.0)),
      )

  -- no base from before is held any more
  moved-away : newest past + 1 ≤ m.base → ⊥
  moved-away held = omega (arith, held, (is (omega (arith, held))).0)

  moved-step : (keep : ℕ) (step : Step) → IsMovedPast (with_step keep past step change) m
  moved-step keep Edits = moved-change keep
  moved-step keep Deletes = λ held. absurd (moved-away held)
  moved-step keep Revives = λ held. absurd (moved-away held)

-- it is so of the document of its number among these
record IsMovedAmong (documents : List DocumentRecord) (number : ℕ) (m : MovedEdit) : Type 0 where
  pub found : DocumentRecord
  pub there : slice_get documents number ≡ Some found
  pub past : IsMovedPast found.past m

of_first : (m : MovedEdit) (first : DocumentRecord) (others : List DocumentRecord) → IsMovedAmong (first ∷ others) zero m → IsMovedPast first.past m
of_first m first others is = subst (λ (d : DocumentRecord). IsMovedPast d.past m) (sym (same_Some first is.found is.there)) is.past

later-stay : (m : MovedEdit) (first : DocumentRecord) (others : List DocumentRecord) (at number : ℕ) (found : Option DocumentRecord)
    → IsMovedAmong (set_document at found others) number m → IsMovedAmong (set_document (suc at) found (first ∷ others)) (suc number) m
later-stay m first others at number None is = record { found = is.found; there = is.there; past = is.past }
later-stay m first others at number (Some d) is = record { found = is.found; there = is.there; past = is.past }

first-stays : (m : MovedEdit) (first : DocumentRecord) (others : List DocumentRecord) (at : ℕ) (found : Option DocumentRecord)
    → IsMovedPast first.past m → IsMovedAmong (set_document (suc at) found (first ∷ others)) zero m
first-stays m first others at None is = record { found = first; there = refl; past = is }
first-stays m first others at (Some d) is = record { found = first; there = refl; past = is }

moved-among : (keep : ℕ) (m : MovedEdit) (taken : Taken) (documents : List DocumentRecord) (at number : ℕ) → IsMovedAmong documents number m
    → IsMovedAmong (set_document at (record_after keep (slice_get documents at) taken) documents) number m
moved-among keep m taken [] at number is = cc
moved-among keep m taken (first ∷ others) zero zero is = record {
  found = record first { past = with_step keep first.past taken.step (change_of taken) };
  there = refl;
  past = moved-step m first.past (of_first m first others is) (change_of taken) keep taken.step;
}
moved-among keep m taken (first ∷ others) zero (suc number) is = record { found = is.found; there = is.there; past = is.past }
moved-among keep m taken (first ∷ others) (suc at) zero is =
    first-stays m first others at (record_after keep (slice_get others at) taken) (of_first m first others is)
moved-among keep m taken (first ∷ others) (suc at) (suc number) is =
    later-stay m first others at number (record_after keep (slice_get others at) taken)
    (moved-among keep m taken others at number (record { found = is.found; there = is.there; past = is.past }))

moved-grown : (state : State) (m : MovedEdit) (taken : Taken) → IsMovedIn state m → IsMovedIn (grown state taken) m
moved-grown state m taken is =
    let among = moved-among state.limits.keep m taken state.documents taken.document m.document (record { found = is.found; there = is.there; past = is.past }) in
    record { found = among.found; there = among.there; past = among.past }

pub moved_stays : MovedStays
moved_stays state m [] is = is
moved_stays state m (first ∷ others) is = moved_stays (grown state first) m others (moved-grown state m first is)

-- what is moved in a state is so of the document that is found there, where it is this document's
pub moved_here : (state : State) (name : List ℕ) (number : ℕ) (found : DocumentRecord) (m : MovedEdit) → IsMovedIn state m
    → find name 0 state.documents ≡ Some (number, found) → m.document ≡ number → IsMovedPast found.past m
moved_here state name number found m is here same =
    let there : slice_get state.documents m.document ≡ Some found = ap (slice_get state.documents) same ∙ found_at name state.documents number found here in
    subst (λ (d : DocumentRecord). IsMovedPast d.past m) (same_Some is.found found (sym is.there ∙ there)) is.past

-- an edit with all deltas since its base is late in the state that holds them
pub late_here : (state : State) (name : List ℕ) (number : ℕ) (found : DocumentRecord) (base : ℕ) (edit : List Operation)
    → find name 0 state.documents ≡ Some (number, found) → found.past.floor ≤ base → base ≤ newest found.past
    → IsLateIn state (record { document = number; base = base; edit = edit; since = deltas_above found.past base })
late_here state name number found base edit here held made = record {
  found = found;
  there = found_at name state.documents number found here;
  held = held;
  made = made;
  since = refl;
}
