-- A store whose oldest segment is retired.
use Rattle.std.proofs.Common.{◌≡◌, inl, inr, ℕ, ◌≤◌, ◌<◌, Option, Some, None, List, ◌++◌, length, set, refl, sym, ◌∙◌, ap, subst, arith}
use Rattle.std.specs.Prelude.{All}
use Rattle.std.proofs.lemmas.List.{length-set}
use Rattle.std.proofs.lemmas.List.Concat.{flat_map-append}
use Rattle.std.proofs.lemmas.List.Elements.{recursion_from_All}
use Rattle.disk.specs.declared.device.Disk.{Ghosts}
use Rattle.revision.specs.Command.{Taken}
use Rattle.journal.specs.BatchSpelling.{IsBatch}
use Rattle.history.specs.Cell.{cells_at, lowest}
use Rattle.history.specs.Law.{IsCovered}
use Rattle.history.specs.Running.{Runs}
use Rattle.history.proofs.CallerLemmas.{retires, covered_by_greatest}
use Rattle.segments.specs.Slot.{Segment}
use Rattle.segments.specs.Numbers.{open_count, IsOldest}
use Rattle.segments.specs.Table.{slot_at, numbers_of, IsRetired}
use Rattle.segments.specs.Order.{bodies_of}
use Rattle.segments.specs.Ring.{HoldsInRing, IsLeftByRetiring, known_numbers}
use Rattle.segments.proofs.CallerLemmas.{retired_bodies}
use Rattle.recovery.specs.declared.store.Store.{Store}
use Rattle.recovery.specs.Found.{FoundAs, HoldsParts, commands_of}
use Rattle.recovery.specs.Open.{IsOpen, IsSpared}
use Rattle.recovery.specs.Run.{MayGiveUp}
use Rattle.recovery.specs.Cells.{lowest_known, highest_known}
use Rattle.recovery.specs.Marks.{marks_of, greatest_marked}
use Rattle.recovery.specs.Jobs.{highest}
use Rattle.recovery.specs.Marked.{SpellSegment, MayRetire}
use Rattle.recovery.proofs.Commits.{again, table_same, parts_kept}
use Rattle.recovery.proofs.KnownCells.{lowest_same, highest_same}
use Rattle.recovery.proofs.Marked.{number_held, one_oldest, covered_by_marks}
use Rattle.recovery.proofs.Runs.{found_as}
use Rattle.recovery.proofs.Splitting.{Split, split}
pub use Rattle.segments.proofs.CallerLemmas.{segment_held as held_there}

-- nothing speaks against retiring the oldest segment, where two slots are open and no mark of it is above its document's cells
pub known_covered : {D : Type 0} {disk : Ghosts D} (store : Store D disk) (number : ℕ) → (slot : ℕ) × IsOldest (known_numbers store.ring) slot number
    → 2 ≤ open_count (known_numbers store.ring) → ((document : ℕ) → IsSpared number document store) → MayGiveUp store
known_covered store number oldest two low = record {
  two = two;
  spared = λ slot segment is document.
      subst (λ n. IsSpared n document store) (one_oldest (known_numbers store.ring) oldest.0 slot number segment oldest.1 is) (low document);
}

module _ {D : Type 0} {disk : Ghosts D} (store : Store D disk) (is_open : IsOpen store) where
  abbrev old : List ℕ
  old = disk.seen store.device

  count : length store.cells.items ≡ length is_open.cells
  count = is_open.cells_are.count ∙ sym is_open.holds.laid_out.in_cells.count

  -- what is known in memory is what the content holds
  pub known : (document : ℕ) → lowest_known store.cells.items document ≡ lowest (cells_at is_open.cells document)
  known document = lowest_same old store.cells.items is_open.cells document count is_open.cells_fit

  pub known_highest : (document : ℕ) → highest_known store.cells.items document ≡ highest (cells_at is_open.cells document)
  known_highest document = highest_same old store.cells.items is_open.cells document count is_open.cells_fit

  -- the batches of what is retired, and those that stay
  pub parted : (after : List (Option Segment)) (retired : IsRetired is_open.table after) → Split retired.segment.bodies (bodies_of after) is_open.batches
  parted after retired =
      split retired.segment.bodies (bodies_of after) is_open.batches
      (sym (retired_bodies is_open.table after is_open.fits.holds.differ retired) ∙ is_open.holds.spell.spelled)
      (recursion_from_All IsBatch is_open.batches is_open.holds.spell.each)

  pub oldest_here : (slot number : ℕ) → IsOldest (known_numbers store.ring) slot number → IsOldest (numbers_of is_open.table) slot number
  oldest_here slot number oldest = subst (λ (l : List (Option ℕ)). IsOldest l slot number) is_open.fits.numbers oldest

  -- fewer than two slots are open
  pub too_few : open_count (known_numbers store.ring) < 2 → ¬ MayRetire is_open.table is_open.cells
  too_few few may = omega (arith, few, may.two, ap open_count is_open.fits.numbers)

  -- a mark of the oldest segment is above what the cells have
  pub above_cells : (slot number document : ℕ) → IsOldest (known_numbers store.ring) slot number
      → lowest_known store.cells.items document < greatest_marked number document (marks_of store.marks) → ¬ MayRetire is_open.table is_open.cells
  above_cells slot number document oldest above may =
      let one : number ≡ may.segment.number = one_oldest (numbers_of is_open.table) slot may.slot number may.segment.number (oldest_here slot number oldest) may.oldest in
      let retired : IsRetired is_open.table (set is_open.table may.slot None) = record { slot = may.slot; segment = may.segment; has = may.has; oldest = may.oldest; is = refl } in
      let parts = parted (set is_open.table may.slot None) retired in
      let spell : SpellSegment may.segment parts.gone = record { spelled = parts.gone_spelled; each = parts.gone_each } in
      let marked = is_open.marked.each may.slot may.segment may.has parts.gone spell document in
      let low = (covered_by_greatest is_open.cells (commands_of parts.gone)).0 (may.covered parts.gone spell) document in
      omega (arith, above, known document, low, marked, ap (λ n. greatest_marked n document (marks_of store.marks)) one)

  module _ (slot number : ℕ) (oldest : IsOldest (known_numbers store.ring) slot number)
      (low : (document : ℕ) → greatest_marked number document (marks_of store.marks) ≤ lowest_known store.cells.items document) where
    -- the segment that is retired is the one that was looked at
    pub same_number : (after : List (Option Segment)) (retired : IsRetired is_open.table after) → number ≡ retired.segment.number
    same_number after retired =
        one_oldest (numbers_of is_open.table) slot retired.slot number retired.segment.number (oldest_here slot number oldest) retired.oldest

    covered_in : (there : ℕ) (segment : Segment) → slot_at is_open.table there ≡ Some segment → number ≡ segment.number
        → (batches : List (List Taken)) → SpellSegment segment batches → All (IsCovered is_open.cells) (commands_of batches)
    covered_in there segment has same =
        covered_by_marks is_open.cells segment (marks_of store.marks) (is_open.marked.each there segment has)
        (λ document. omega (arith, low document, known document, ap (λ n. greatest_marked n document (marks_of store.marks)) same))

    pub may_retire : 2 ≤ open_count (known_numbers store.ring) → MayRetire is_open.table is_open.cells
    may_retire two =
        let here = oldest_here slot number oldest in
        let held = held_there (slot_at is_open.table slot) number (sym (number_held is_open.table slot) ∙ here.has) in
        record {
          two = omega (arith, two, ap open_count is_open.fits.numbers);
          slot = slot;
          segment = held.0;
          has = held.1;
          oldest = subst (λ n. IsOldest (numbers_of is_open.table) slot n) (sym held.2) here;
          covered = covered_in slot held.0 held.1 (sym held.2);
        }

    -- the store runs on with the batches that stay
    pub runs_on : (after : List (Option Segment)) (retired : IsRetired is_open.table after) → Runs is_open.order is_open.cells (commands_of (parted after retired).left) store.state
    runs_on after retired =
        let parts = parted after retired in
        let entries : commands_of is_open.batches ≡ commands_of parts.gone ++ commands_of parts.left =
        ap commands_of parts.both ∙ flat_map-append (λ (c : List Taken). c) parts.gone parts.left in
        retires is_open.order is_open.cells (commands_of parts.gone) (commands_of parts.left) store.state
        (subst (λ (e : List Taken). Runs is_open.order is_open.cells e store.state) entries is_open.runs)
        (covered_in retired.slot retired.segment retired.has (same_number after retired) parts.gone (record { spelled = parts.gone_spelled; each = parts.gone_each }))

    pub parts_on : (content : List ℕ) (after : List (Option Segment)) (retired : IsRetired is_open.table after) → HoldsInRing old store.ring after content
        → HoldsParts content store.shape is_open.cells after (parted after retired).left
    parts_on content after retired held =
        let parts = parted after retired in
        record {
          laid_out = again store is_open content after (ap (λ (l : List (Option Segment)). length l) retired.is ∙ length-set is_open.table retired.slot None) held;
          spell = record { spelled = parts.left_spelled; each = parts.left_each };
          entries = tt;
        }

    -- a crash leaves the state
    pub left_retiring : (content : List ℕ) → IsLeftByRetiring old store.ring is_open.table content → FoundAs content store.state
    left_retiring content (inl held) = found_as content store.state (record {
      shape = store.shape;
      cells = is_open.cells;
      table = is_open.table;
      batches = is_open.batches;
      order = is_open.order;
      holds = parts_kept store is_open content is_open.table (table_same store is_open) held;
      limits = is_open.limits;
      runs = is_open.runs;
    })
    left_retiring content (inr (after, retired, held)) = found_as content store.state (record {
      shape = store.shape;
      cells = is_open.cells;
      table = after;
      batches = (parted after retired).left;
      order = is_open.order;
      holds = parts_on content after retired held;
      limits = is_open.limits;
      runs = runs_on after retired;
    })
