-- Cells of a document that shows a history.
use Rattle.std.proofs.Common.{◌≡◌, ℕ, zero, suc, ◌+◌, ◌-◌, ◌≤◌, ◌<◌, true, List, [], ◌∷◌, length, take, drop, Option, Some, None, refl, sym, ap, subst, ◌∙◌, ⊎_elim, arith}
use Rattle.std.specs.Prelude.{slice_get}
use Rattle.std.proofs.lemmas.Bool.{and_parts, cases_lt}
use Rattle.revision.specs.Command.{Taken}
use Rattle.revision.specs.declared.step.Step.{Step}
use Rattle.revision.specs.declared.step.Step.TheVariants.{Edits, Deletes, Revives}
use Rattle.revision.specs.Past.{Past, Change, newest, from_floor}
use Rattle.revision.specs.Floors.{longer}
use Rattle.revision.specs.State.{Limits, DocumentRecord, revision_of, newest_revision, change_of, continues, record_after, all_continue}
use Rattle.revision.proofs.CallerLemmas.{from_longer}
use Rattle.history.specs.Entries.{of_document}
use Rattle.history.specs.Cell.{Cell, cell_of, record_of_cell}
use Rattle.history.specs.Found.{started}
use Rattle.history.specs.Shown.{longer_by, whole_after, whole_of, base_at, whole_at, Shows, PlacesShow}
use Rattle.history.specs.Running.{IsCellOf, IsCellAt}
use Rattle.history.specs.Law.{HeldIsCell, CellsStay}
use Rattle.history.proofs.Showing.{newest-longer, newest-shown, newest-after, record-more, places-itself, from-shown, revision-shown}
use Rattle.history.proofs.Counting.{of_document-append}
use Rattle.history.proofs.Committing.{cell-longer}

none-left : (n : ℕ) (changes : List Change) → length changes ≤ n → drop n changes ≡ []
none-left zero [] le = refl
none-left zero (first ∷ others) le = absurd (omega (arith, le))
none-left (suc n) [] le = refl
none-left (suc n) (first ∷ others) le = none-left n others (omega (arith, le))

some_same : (a b : DocumentRecord) → ◌≡◌ {A = Option DocumentRecord} (Some a) (Some b) → a ≡ b
some_same a b is = cc

-- a past at a revision, without the changes after it
abbrev cut_at : Past → ℕ → Past
cut_at past revision = record (from_floor past revision) { changes = [] }

cut-newest : (past : Past) (revision : ℕ) → newest past ≤ revision → cut_at past revision ≡ from_floor past revision
cut-newest past revision all = ap (λ l. record (from_floor past revision) { changes = l }) (sym (none-left (revision - past.floor) past.changes (omega (arith, all))))

-- the floor of what commands make is never below the one before
step-rises : (past : Past) (step : Step) (change : Change) → past.floor ≤ (longer_by past step change).floor
step-rises past Edits change = omega arith
step-rises past Deletes change = omega arith
step-rises past Revives change = omega arith

rises : (before whole : DocumentRecord) (others : List Taken) → whole_of (Some before) others ≡ Some whole → before.past.floor ≤ whole.past.floor
rises before whole [] is = omega (arith, ap (λ (d : DocumentRecord). d.past.floor) (some_same before whole is))
rises before whole (first ∷ others) is =
    omega (arith, step-rises before.past first.step (change_of first), rises (record before { past = longer_by before.past first.step (change_of first) }) whole others is)

-- Further commands leave what stood at a revision before, where none of them deletes the document or creates it again: the floor would then be
-- above it.
abbrev IsLeft : DocumentRecord → DocumentRecord → ℕ → Type 0
IsLeft before whole revision =
    (cut_at whole.past revision ≡ cut_at before.past revision) × (whole.name ≡ before.name) × (whole.past.floor ≡ before.past.floor)

further : (before whole : DocumentRecord) (others : List Taken) (revision : ℕ) → whole_of (Some before) others ≡ Some whole
    → before.past.floor ≤ revision → revision ≤ newest before.past → whole.past.floor ≤ revision → IsLeft before whole revision
further before whole [] revision is above within low =
    let same : whole ≡ before = sym (some_same before whole is) in
    (ap (λ (d : DocumentRecord). cut_at d.past revision) same, ap (λ (d : DocumentRecord). d.name) same, ap (λ (d : DocumentRecord). d.past.floor) same)
further before whole (first ∷ others) revision is above within low =
    by_step first.step is
    (further (record before { past = longer before.past (change_of first) }) whole others revision)
    (λ st. rises (record before { past = longer_by before.past st (change_of first) }) whole others)
  where
    by_step : (step : Step) → whole_of (Some (record before { past = longer_by before.past step (change_of first) })) others ≡ Some whole
        → (whole_of (Some (record before { past = longer before.past (change_of first) })) others ≡ Some whole
        → before.past.floor ≤ revision → revision ≤ newest (longer before.past (change_of first)) → whole.past.floor ≤ revision
        → IsLeft (record before { past = longer before.past (change_of first) }) whole revision)
        → ((st : Step) → whole_of (Some (record before { past = longer_by before.past st (change_of first) })) others ≡ Some whole
        → (longer_by before.past st (change_of first)).floor ≤ whole.past.floor)
        → IsLeft before whole revision
    by_step Edits is left over =
        let later = left is above (omega (arith, within, newest-longer before.past (change_of first))) low in
        (later.0 ∙ ap (λ (p : Past). record p { changes = [] }) (sym (from_longer before.past revision (change_of first) above within)), later.1, later.2)
    by_step Deletes is left over = absurd (omega (arith, over Deletes is, low, within))
    by_step Revives is left over = absurd (omega (arith, over Revives is, low, within))

-- what the first commands make, up to a revision
record Cut (base : Option DocumentRecord) (commands : List Taken) (whole : DocumentRecord) (revision : ℕ) : Type 0 where
  count : ℕ
  within : count ≤ length commands
  first : DocumentRecord
  is : whole_of base (take count commands) ≡ Some first
  name : whole.name ≡ first.name
  floor : first.past.floor ≤ revision
  reached : newest first.past ≡ revision
  same : cut_at whole.past revision ≡ cut_at first.past revision

cut : (limits : Limits) (base found : Option DocumentRecord) (commands : List Taken) (whole : DocumentRecord) (revision : ℕ) → PlacesShow base found
    → all_continue limits found commands ≡ true → whole_of base commands ≡ Some whole → newest_revision base ≤ revision → 1 ≤ revision
    → revision ≤ newest whole.past → whole.past.floor ≤ revision → Cut base commands whole revision
cut limits None found [] whole revision shows h is above some within low = absurd (cc)
cut limits (Some before) found [] whole revision shows h is above some within low =
    let same : whole ≡ before = sym (some_same before whole is) in
    let long : newest whole.past ≡ newest before.past = ap (λ (d : DocumentRecord). newest d.past) same in
    record {
      count = 0;
      within = omega arith;
      first = before;
      is = refl;
      name = ap (λ (d : DocumentRecord). d.name) same;
      floor = omega (arith, above);
      reached = omega (arith, above, within, long);
      same = ap (λ (d : DocumentRecord). cut_at d.past revision) same;
    }
cut limits base found (taken ∷ others) whole revision shows h is above some within low =
    ⊎_elim (λ (under : revision < newest_revision base + 1). here base is above under)
    (λ (over : newest_revision base + 1 ≤ revision).
    there (cut limits (whole_after base taken) (record_after limits.keep found taken) others whole revision next parts.1 is (omega (arith, long, over)) some within low))
    (cases_lt revision (newest_revision base + 1))
  where
    parts : (continues limits found taken ≡ true) × (all_continue limits (record_after limits.keep found taken) others ≡ true)
    parts = and_parts (continues limits found taken) (all_continue limits (record_after limits.keep found taken) others) h

    next : PlacesShow (whole_after base taken) (record_after limits.keep found taken)
    next = record-more limits base found taken shows parts.0

    long : newest_revision (whole_after base taken) ≡ newest_revision base + 1
    long = omega (arith, newest-shown (whole_after base taken) (record_after limits.keep found taken) next, newest-after limits found taken parts.0, newest-shown base found shows)

    here : (b : Option DocumentRecord) → whole_of b (taken ∷ others) ≡ Some whole → newest_revision b ≤ revision → revision < newest_revision b + 1 → Cut b (taken ∷ others) whole revision
    here None is above under = absurd (omega (arith, under, some))
    here (Some before) is above under =
        let later = further before whole (taken ∷ others) revision is (omega (arith, above)) (omega (arith, under)) low in
        record {
          count = 0;
          within = omega arith;
          first = before;
          is = refl;
          name = later.1;
          floor = omega (arith, above);
          reached = omega (arith, above, under);
          same = later.0;
        }

    there : Cut (whole_after base taken) others whole revision → Cut base (taken ∷ others) whole revision
    there later = record {
      count = suc later.count;
      within = omega (arith, later.within);
      first = later.first;
      is = later.is;
      name = later.name;
      floor = later.floor;
      reached = later.reached;
      same = later.same;
    }

-- what a document began with reaches no further than the floor of the whole one
base-below : (start : Option Cell) (commands : List Taken) (whole : DocumentRecord) → whole_of (started start) commands ≡ Some whole
    → newest_revision (started start) ≤ whole.past.floor
base-below None commands whole is = omega arith
base-below (Some cell) commands whole is =
    omega (arith, rises (record_of_cell cell) whole commands is)

held-is-cell : (limits : Limits) (start : Option Cell) (commands : List Taken) (whole found : DocumentRecord) (revision : ℕ)
    → all_continue limits (started start) commands ≡ true → whole_of (started start) commands ≡ Some whole → Shows whole found
    → found.past.floor ≤ revision → 1 ≤ revision → revision ≤ revision_of found → IsCellOf (started start) commands (cell_of found revision)
held-is-cell limits start commands whole found revision h is shows held some there =
    let number = revision-shown whole found shows in
    let part = cut limits (started start) (started start) commands whole revision (places-itself (started start)) h is
    (omega (arith, base-below start commands whole is, shows.above, held)) some (omega (arith, there, number)) (omega (arith, shows.above, held)) in
    let shown : Shows part.first (record_of_cell (cell_of found revision)) = record {
      name = shows.name ∙ part.name;
      above = part.floor;
      floor = omega (arith, part.reached);
      past = ap (λ (p : Past). record p { changes = [] }) (from-shown whole found revision shows held)
          ∙ (part.same ∙ cut-newest part.first.past revision (omega (arith, part.reached)));
    } in
    record { count = part.count; within = part.within; shows = subst (λ w. PlacesShow w (Some (record_of_cell (cell_of found revision)))) (sym part.is) shown }

pub held_is_cell : HeldIsCell
held_is_cell order cells entries state number found revision runs here held some there =
    by_whole (whole_at order number) refl (subst (PlacesShow (whole_at order number)) here (runs.shows number))
  where
    by_whole : (whole : Option DocumentRecord) → whole_at order number ≡ whole → PlacesShow whole (Some found) → IsCellAt order number (cell_of found revision)
    by_whole None is shows = absurd shows
    by_whole (Some whole) is shows =
        held-is-cell state.limits (slice_get order.start number) (of_document number order.taken) whole found revision (runs.is_order number) is shows held some there

pub cells_stay : CellsStay
cells_stay order batch number cell of =
    subst (λ l. IsCellOf (base_at order number) l cell) (sym (of_document-append number order.taken batch))
    (cell-longer (base_at order number) (of_document number order.taken) (of_document number batch) cell of)
