-- What a content represents after an append to the ring, or within one.
use Rattle.std.proofs.Common.{◌≡◌, inl, inr, ℕ, ◌*◌, true, Option, List, [], ◌∷◌, ◌++◌, length, refl, sym, ◌∙◌, ap, subst}
use Rattle.std.proofs.lemmas.List.{length-set, map_push}
use Rattle.std.proofs.lemmas.List.Elements.{All-append, All-cons, All-nil}
use Rattle.disk.specs.declared.device.Disk.{Ghosts}
use Rattle.disk.specs.Device.{SameOutside}
use Rattle.revision.specs.Command.{Taken}
use Rattle.revision.specs.State.{fold, all_grow}
use Rattle.journal.specs.BatchSpelling.{IsBatch, batch}
use Rattle.history.specs.Shown.{with_commands}
use Rattle.history.specs.Running.{Runs}
use Rattle.history.proofs.CallerLemmas.{commits}
use Rattle.segments.specs.declared.ring.Ring.{Ring}
use Rattle.segments.specs.Slot.{Segment}
use Rattle.segments.specs.Numbers.{NumbersDiffer}
use Rattle.segments.specs.Table.{HoldsTable, IsAppended, numbers_of}
use Rattle.segments.specs.Order.{bodies_of}
use Rattle.segments.specs.Ring.{IsReady, HoldsInRing, FitsNow, SamePlaces, IsLeftByAppend, at_of, size_of, ring_size, known_numbers}
use Rattle.segments.proofs.CallerLemmas.{opened_bodies, appended_bodies, opened_differs}
use Rattle.recovery.specs.declared.store.Store.{Store}
use Rattle.recovery.specs.Shape.{slots_place}
use Rattle.recovery.specs.Layout.{IsLaidOut}
use Rattle.recovery.specs.Found.{FoundAs, HoldsParts, limits_of, commands_of}
use Rattle.recovery.specs.Open.{IsOpen, IsWithOrWithout}
use Rattle.recovery.specs.steps.Appending.{IsDone}
use Rattle.recovery.proofs.Layouts.{laid_out_again, slots_held, as_many}
use Rattle.recovery.proofs.Folds.{commands_of-push, fold-limits}
use Rattle.recovery.proofs.Runs.{found_as, found_open}
pub use Rattle.segments.proofs.CallerLemmas.{same_ring as as_it_was}

-- a table with the same bodies
pub record SameBodies (before now : List (Option Segment)) : Type 0 where
  pub bodies : bodies_of now ≡ bodies_of before
  pub count : length now ≡ length before
  pub differ : NumbersDiffer (numbers_of now)

-- a call that is done holds its table among the slots
pub held_now : (old new : List ℕ) (before after : Ring) (table : List (Option Segment)) → SamePlaces before after → FitsNow old before new after table → HoldsInRing old before table new
held_now old new before after table places now = record {
  outside = now.outside;
  holds = subst (λ n. HoldsTable n (size_of before) new table) places.at (subst (λ n. HoldsTable (at_of after) n new table) places.size now.fits.holds);
}

module _ {D : Type 0} {disk : Ghosts D} (store : Store D disk) (is_open : IsOpen store) where
  abbrev old : List ℕ
  old = disk.seen store.device

  -- the content before
  pub found_before : FoundAs old store.state
  found_before = found_as old store.state (found_open store is_open)

  -- the layout with another table
  pub again : (content : List ℕ) (now : List (Option Segment)) → length now ≡ length is_open.table → HoldsInRing old store.ring now content → IsLaidOut content store.shape is_open.cells now
  again content now count held =
      let laid_out = is_open.holds.laid_out in
      let many : length (known_numbers store.ring) ≡ store.shape.slots = as_many old store.ring is_open.table is_open.fits ∙ laid_out.in_slots.count in
      let size : ring_size store.ring ≡ store.shape.slots * store.shape.slot = ap (λ n. n * size_of store.ring) many ∙ ap (λ n. store.shape.slots * n) is_open.ring_size in
      let outside : SameOutside (slots_place store.shape) (store.shape.slots * store.shape.slot) old content =
      subst (λ n. SameOutside n (store.shape.slots * store.shape.slot) old content) is_open.ring_at (subst (λ n. SameOutside (at_of store.ring) n old content) size held.outside) in
      laid_out_again old content store.shape is_open.cells is_open.table now laid_out outside
      (slots_held content store.shape (at_of store.ring) (size_of store.ring) now is_open.ring_at is_open.ring_size (count ∙ laid_out.in_slots.count) held.holds)

  -- the table that a body is appended to has the same bodies
  pub ready_same : (len : ℕ) (ready : List (Option Segment)) → IsReady store.ring len is_open.table ready → SameBodies is_open.table ready
  ready_same len ready (inl fits) = subst (SameBodies is_open.table) (sym fits.1) (record { bodies = refl; count = refl; differ = is_open.fits.holds.differ })
  ready_same len ready (inr opened) = record {
    bodies = opened_bodies is_open.table ready opened.1;
    count = ap (λ (l : List (Option Segment)). length l) opened.1.is ∙ length-set is_open.table opened.1.slot _;
    differ = opened_differs is_open.table ready is_open.fits.holds.differ opened.1;
  }

  -- and so does the table before
  pub table_same : SameBodies is_open.table is_open.table
  table_same = record { bodies = refl; count = refl; differ = is_open.fits.holds.differ }

  -- a content that holds such a table holds the parts before
  pub parts_kept : (content : List ℕ) (now : List (Option Segment)) → SameBodies is_open.table now → HoldsInRing old store.ring now content
      → HoldsParts content store.shape is_open.cells now is_open.batches
  parts_kept content now same held = record {
    laid_out = again content now same.count held;
    spell = record { spelled = same.bodies ∙ is_open.holds.spell.spelled; each = is_open.holds.spell.each };
    entries = tt;
  }

  found_kept : (content : List ℕ) (now : List (Option Segment)) → SameBodies is_open.table now → HoldsInRing old store.ring now content → FoundAs content store.state
  found_kept content now same held = found_as content store.state (record {
    shape = store.shape;
    cells = is_open.cells;
    table = now;
    batches = is_open.batches;
    order = is_open.order;
    holds = parts_kept content now same held;
    limits = is_open.limits;
    runs = is_open.runs;
  })

  found_held : (content : List ℕ) → HoldsInRing old store.ring is_open.table content → FoundAs content store.state
  found_held content held = found_kept content is_open.table table_same held

  module _ (commands : List Taken) (is_batch : IsBatch commands) (grow : all_grow store.state commands ≡ true) where
    abbrev batches_then : List (List Taken)
    batches_then = is_open.batches ++ commands ∷ []

    -- a content that holds the table with the batch
    pub parts_with : (content : List ℕ) (ready now : List (Option Segment)) (len : ℕ) → IsReady store.ring len is_open.table ready → IsAppended ready (batch commands) now
        → HoldsInRing old store.ring now content → HoldsParts content store.shape is_open.cells now batches_then
    parts_with content ready now len is appended held =
        let same = ready_same len ready is in
        let count : length now ≡ length is_open.table = ap (λ (l : List (Option Segment)). length l) appended.is ∙ length-set ready appended.slot _ ∙ same.count in
        let bodies : bodies_of now ≡ bodies_of is_open.table ++ batch commands ∷ [] =
        appended_bodies ready (batch commands) now same.differ appended ∙ ap (λ (b : List (List ℕ)). b ++ batch commands ∷ []) same.bodies in
        record {
          laid_out = again content now count held;
          spell = record {
            spelled = bodies ∙ ap (λ (b : List (List ℕ)). b ++ batch commands ∷ []) is_open.holds.spell.spelled ∙ sym (map_push batch is_open.batches commands);
            each = All-append IsBatch is_open.batches (commands ∷ []) is_open.holds.spell.each (All-cons IsBatch commands [] is_batch (All-nil IsBatch));
          };
          entries = tt;
        }

    -- the store runs on with it
    pub runs_with : Runs (with_commands is_open.order commands) is_open.cells (commands_of batches_then) (fold store.state commands)
    runs_with =
        subst (λ (entries : List Taken). Runs (with_commands is_open.order commands) is_open.cells entries (fold store.state commands)) (sym (commands_of-push is_open.batches commands))
        (commits is_open.order is_open.cells (commands_of is_open.batches) store.state commands is_open.runs grow)

    pub limits_with : (fold store.state commands).limits ≡ limits_of store.shape
    limits_with = fold-limits store.state commands ∙ is_open.limits

    -- a crash within the append
    pub with_or_without : (content : List ℕ) → IsLeftByAppend old store.ring is_open.table (batch commands) content → IsWithOrWithout store.state commands content
    with_or_without content (inl held) = inl (found_held content held)
    with_or_without content (inr (ready, is, inl held)) = inl (found_kept content ready (ready_same (length (batch commands)) ready is) held)
    with_or_without content (inr (ready, is, inr (now, appended, held))) =
        inr (found_as content (fold store.state commands) (record {
          shape = store.shape;
          cells = is_open.cells;
          table = now;
          batches = batches_then;
          order = with_commands is_open.order commands;
          holds = parts_with content ready now (length (batch commands)) is appended held;
          limits = limits_with;
          runs = runs_with;
        }))

    -- the parts after an append that is done
    pub parts_after : (new : List ℕ) (later : Ring) → SamePlaces store.ring later → (done : IsDone old store.ring is_open.table (batch commands) new later)
        → HoldsParts new store.shape is_open.cells done.now batches_then
    parts_after new later places done =
        parts_with new done.ready done.now (length (batch commands)) done.is_ready done.appended (held_now old new store.ring later done.now places done.fits)
