-- How far the cells and the entries of a document reach: no further than the document itself.
use Rattle.std.proofs.Common.{◌≡◌, ℕ, ◌+◌, ◌≤◌, true, false, Option, Some, None, List, [], ◌∷◌, ◌++◌, length, set, refl, sym, ◌∙◌, ap, subst, inl, inr, arith}
use Rattle.std.specs.Prelude.{◌==◌, ◌&&◌, not, nat_le, slice_get}
use Rattle.std.proofs.lemmas.Bool.{cases_eq, and_parts, eqb-true}
use Rattle.std.proofs.lemmas.Bool.Decides.{nat_tests}
use Rattle.std.proofs.lemmas.List.Concat.{flat_map-append}
use Rattle.disk.specs.declared.device.Disk.{Ghosts}
use Rattle.revision.specs.Command.{Taken, edits}
use Rattle.revision.specs.Past.{suits, newest, empty_past, with_step}
use Rattle.revision.specs.Sources.{window_of}
use Rattle.revision.specs.State.{newest_revision, Limits, DocumentRecord, State, revision_of, sources_of, units_of, last_of_all, has_place, is_live, keeps, comes_next, change_of, continues, continues_by_name, record_by_name, record_after, all_continue}
use Rattle.revision.proofs.CallerLemmas.{step_makes}
use Rattle.history.specs.Entries.{of_document, greatest}
use Rattle.history.specs.Cell.{Pair, cells_at, OfBoth}
use Rattle.history.specs.Shown.{Order, base_at}
use Rattle.history.specs.Running.{IsCellAt, Runs}
use Rattle.history.proofs.CallerLemmas.{documents_reach, cells_reach}
use Rattle.segments.specs.Numbers.{IsOldest}
use Rattle.segments.specs.Table.{slot_at, numbers_of, IsRetired}
use Rattle.segments.specs.Ring.{known_numbers}
use Rattle.recovery.specs.declared.store.Store.{Store}
use Rattle.recovery.specs.Found.{commands_of}
use Rattle.recovery.specs.Open.{IsOpen}
use Rattle.recovery.specs.Cells.{highest_known}
use Rattle.recovery.specs.Marks.{marks_of, greatest_marked}
use Rattle.recovery.specs.Jobs.{highest}
use Rattle.recovery.specs.Marked.{SpellSegment}
use Rattle.recovery.specs.steps.Freeing.{reached_in}
use Rattle.recovery.proofs.Marked.{number_held}
use Rattle.recovery.proofs.Retirement.{held_there, parted, oldest_here, known_highest}

-- a command more makes one revision more at most
reached_with : (keep : ℕ) (found : Option DocumentRecord) (taken : Taken) (name : Option (List ℕ)) → newest_revision (record_by_name keep found taken name) ≤ newest_revision found + 1
reached_with keep None taken None = omega arith
reached_with keep None taken (Some name) =
    let made : newest (with_step keep empty_past taken.step (change_of taken)) ≡ newest empty_past + 1 = (step_makes keep empty_past taken.step (change_of taken)).0 in
    omega arith
reached_with keep (Some found) taken name =
    let made : newest (with_step keep found.past taken.step (change_of taken)) ≡ newest found.past + 1 = (step_makes keep found.past taken.step (change_of taken)).0 in
    omega arith

-- a command that continues a document is its next revision
next_reached : (limits : Limits) (found : Option DocumentRecord) (taken : Taken) (name : Option (List ℕ)) → continues_by_name limits found taken name ≡ true
    → taken.revision ≡ newest_revision found + 1
next_reached limits None taken None is = absurd cc
next_reached limits None taken (Some name) is =
    let last = and_parts (edits taken.step && (taken.revision == 1) && (taken.number == 1)) _ is in
    let numbers = and_parts (edits taken.step && (taken.revision == 1)) (taken.number == 1) last.0 in
    omega (arith, eqb-true _ _ (and_parts (edits taken.step) (taken.revision == 1) numbers.0).1)
next_reached limits (Some found) taken None is =
    let kept = and_parts (suits (is_live found) taken.step && comes_next limits (revision_of found) (sources_of found) taken)
    (keeps limits (units_of found) (sources_of found) taken) is in
    let following = and_parts (suits (is_live found) taken.step) (comes_next limits (revision_of found) (sources_of found) taken) kept.0 in
    let place = and_parts ((taken.revision == revision_of found + 1) && not (revision_of found == last_of_all)
    && (taken.number == (window_of taken.source (sources_of found)).number + 1) && nat_le taken.number last_of_all)
    (has_place limits taken.source (sources_of found)) following.1 in
    let number = and_parts ((taken.revision == revision_of found + 1) && not (revision_of found == last_of_all)
    && (taken.number == (window_of taken.source (sources_of found)).number + 1)) _ place.0 in
    let next = and_parts ((taken.revision == revision_of found + 1) && not (revision_of found == last_of_all)) _ number.0 in
    eqb-true _ _ (and_parts (taken.revision == revision_of found + 1) _ next.0).0
next_reached limits (Some found) taken (Some name) is = absurd cc

-- the commands of a document reach no further than there are of them
pub greatest_reached : (limits : Limits) (number : ℕ) (order : List Taken) (found : Option DocumentRecord) → all_continue limits found (of_document number order) ≡ true
    → greatest number order ≤ newest_revision found + length (of_document number order)
greatest_reached limits number [] found = λ goes_on. omega arith
greatest_reached limits number (first ∷ others) found = elim (cases_eq first.document number) [
  | inl same ↦
      let test : (first.document == number) ≡ true = grind (arith, nat_tests) in
      rw test (λ goes_on.
      let parts = and_parts (continues limits found first) (all_continue limits (record_after limits.keep found first) (of_document number others)) goes_on in
      omega (
        arith,
        next_reached limits found first first.name parts.0,
        reached_with limits.keep found first first.name,
        greatest_reached limits number others (record_after limits.keep found first) parts.1,
      ))
  | inr apart ↦
      let test : (first.document == number) ≡ false = grind (arith, nat_tests) in
      rw test (greatest_reached limits number others found)
]

-- some of the commands reach no further than all
greatest_first : (number : ℕ) (first others : List Taken) → greatest number first ≤ greatest number (first ++ others)
greatest_first number [] others = omega arith
greatest_first number (taken ∷ more) others = elim (cases_eq taken.document number) [
  | inl same ↦ let test : (taken.document == number) ≡ true = grind (arith, nat_tests) in rw test (omega (arith, greatest_first number more others))
  | inr apart ↦ let test : (taken.document == number) ≡ false = grind (arith, nat_tests) in rw test (greatest_first number more others)
]

greatest_last : (number : ℕ) (first others : List Taken) → greatest number others ≤ greatest number (first ++ others)
greatest_last number [] others = omega arith
greatest_last number (taken ∷ more) others = elim (cases_eq taken.document number) [
  | inl same ↦ let test : (taken.document == number) ≡ true = grind (arith, nat_tests) in rw test (omega (arith, greatest_last number more others))
  | inr apart ↦ let test : (taken.document == number) ≡ false = grind (arith, nat_tests) in rw test (greatest_last number more others)
]

-- open cells of a document reach no further than it
cells_within : (order : Order) (cells : List Pair) (entries : List Taken) (state : State) (number : ℕ) → Runs order cells entries state → (pair : Pair)
    → OfBoth (IsCellAt order number) pair → highest pair ≤ newest_revision (slice_get state.documents number)
cells_within order cells entries state number runs (None, None) both = omega arith
cells_within order cells entries state number runs (None, Some second) both = cells_reach order cells entries state number second runs both.1
cells_within order cells entries state number runs (Some first, None) both = cells_reach order cells entries state number first runs both.0
cells_within order cells entries state number runs (Some first, Some second) both =
    omega (arith, cells_reach order cells entries state number first runs both.0, cells_reach order cells entries state number second runs both.1)

module _ {D : Type 0} {disk : Ghosts D} (store : Store D disk) (is_open : IsOpen store) where
  document_reached : (document : ℕ) → newest_revision (base_at is_open.order document) + length (of_document document is_open.order.taken) ≡ reached_in store.state document
  document_reached document = documents_reach is_open.order is_open.cells (commands_of is_open.batches) store.state document is_open.runs

  -- no open cell of a document is above its revision
  pub cells_reached : (document : ℕ) → highest_known store.cells.items document ≤ reached_in store.state document
  cells_reached document =
      omega (
        arith,
        known_highest store is_open document,
        cells_within is_open.order is_open.cells (commands_of is_open.batches) store.state document is_open.runs (cells_at is_open.cells document) (is_open.runs.cells_are document),
      )

  -- and no mark of the oldest segment
  pub marks_reached : (slot number : ℕ) → IsOldest (known_numbers store.ring) slot number → (document : ℕ)
      → greatest_marked number document (marks_of store.marks) ≤ reached_in store.state document
  marks_reached slot number oldest document =
      let here = oldest_here store is_open slot number oldest in
      let held = held_there (slot_at is_open.table slot) number (sym (number_held is_open.table slot) ∙ here.has) in
      let segment = held.0 in
      let retired : IsRetired is_open.table (set is_open.table slot None) =
      record { slot = slot; segment = segment; has = held.1; oldest = subst (λ n. IsOldest (numbers_of is_open.table) slot n) (sym held.2) here; is = refl } in
      let parts = parted store is_open (set is_open.table slot None) retired in
      let spell : SpellSegment segment parts.gone = record { spelled = parts.gone_spelled; each = parts.gone_each } in
      let marked = is_open.marked.each slot segment held.1 parts.gone spell document in
      let entries : commands_of is_open.batches ≡ commands_of parts.gone ++ commands_of parts.left =
      ap commands_of parts.both ∙ flat_map-append (λ (c : List Taken). c) parts.gone parts.left in
      omega (
        arith,
        ap (λ n. greatest_marked n document (marks_of store.marks)) held.2,
        marked,
        greatest_first document (commands_of parts.gone) (commands_of parts.left),
        ap (greatest document) entries,
        greatest_last document is_open.runs.retired (commands_of is_open.batches),
        ap (greatest document) is_open.runs.held,
        greatest_reached store.state.limits document is_open.order.taken (base_at is_open.order document) (is_open.runs.is_order document),
        document_reached document,
      )
