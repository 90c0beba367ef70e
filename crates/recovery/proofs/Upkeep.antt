-- What is known of the cells and of the marks after an append to the ring.
use Rattle.std.proofs.Common.{◌≡◌, inl, inr, ℕ, Option, List, length, take, sym, ◌∙◌, subst}
use Rattle.disk.specs.declared.device.Disk.{Ghosts}
use Rattle.disk.specs.Device.{SameOutside}
use Rattle.revision.specs.Command.{Taken}
use Rattle.journal.specs.BatchSpelling.{IsBatch, batch}
use Rattle.segments.specs.declared.ring.Ring.{Ring}
use Rattle.segments.specs.Slot.{Segment}
use Rattle.segments.specs.Numbers.{IsNewest}
use Rattle.segments.specs.Table.{numbers_of}
use Rattle.segments.specs.Ring.{IsReady, at_of, ring_size, known_numbers}
use Rattle.recovery.specs.declared.store.Store.{Store}
use Rattle.recovery.specs.declared.marks.Mark.{Mark}
use Rattle.recovery.specs.Open.{IsOpen}
use Rattle.recovery.specs.Cells.{FitEach}
use Rattle.recovery.specs.Marks.{marks_of, IsNoted}
use Rattle.recovery.specs.Marked.{AreMarked}
use Rattle.recovery.specs.steps.Appending.{IsDone}
use Rattle.recovery.proofs.Commits.{ready_same}
use Rattle.recovery.proofs.KnownCells.{fit_stays}
use Rattle.recovery.proofs.Marked.{marked_opened, marked_appended, numbers_kept}

module _ {D : Type 0} {disk : Ghosts D} (store : Store D disk) (is_open : IsOpen store) where
  -- the cells fit a content that has changed among the slots alone
  pub cells_later : (content : List ℕ) → SameOutside (at_of store.ring) (ring_size store.ring) (disk.seen store.device) content → FitEach content store.cells.items is_open.cells
  cells_later content outside =
      fit_stays (disk.seen store.device) content store.shape store.cells.items is_open.cells is_open.holds.laid_out.names.in_range is_open.cells_are
      (subst (λ n. take n content ≡ take n (disk.seen store.device)) is_open.ring_at outside.before) is_open.cells_fit

  -- the marks are those of the table that a body is appended to
  marked_ready : (len : ℕ) (ready : List (Option Segment)) → IsReady store.ring len is_open.table ready → AreMarked ready (marks_of store.marks)
  marked_ready len ready (inl fits) = subst (λ (t : List (Option Segment)). AreMarked t (marks_of store.marks)) (sym fits.1) is_open.marked
  marked_ready len ready (inr opened) = marked_opened is_open.table ready (marks_of store.marks) is_open.fits.holds.differ opened.1 is_open.marked

  -- and with the batch, where its commands are noted in the newest segment
  pub marked_with : (commands : List Taken) → IsBatch commands → (new : List ℕ) (later : Ring) (done : IsDone (disk.seen store.device) store.ring is_open.table (batch commands) new later) (now : List Mark)
      → ((slot number : ℕ) → IsNewest (known_numbers later) slot number → IsNoted number commands (marks_of store.marks) now) → AreMarked done.now now
  marked_with commands is_batch new later done now noted =
      let same = ready_same store is_open (length (batch commands)) done.ready done.is_ready in
      let numbers : known_numbers later ≡ numbers_of done.ready = done.fits.fits.numbers ∙ numbers_kept done.ready done.now (batch commands) done.appended in
      let newest : IsNewest (known_numbers later) done.appended.slot done.appended.segment.number =
      subst (λ (l : List (Option ℕ)). IsNewest l done.appended.slot done.appended.segment.number) (sym numbers) done.appended.newest in
      marked_appended done.ready done.now commands (marks_of store.marks) now same.differ done.appended is_batch (noted done.appended.slot done.appended.segment.number newest)
      (marked_ready (length (batch commands)) done.ready done.is_ready)
