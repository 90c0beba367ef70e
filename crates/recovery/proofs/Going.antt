-- How what calls of a store keep is shown for one call, and holds over others.
use Rattle.std.proofs.Common.{◌≡◌, ◌≢◌, ◌↔◌, ◌⊎◌, inl, inr, ℕ, true, false, List, [], refl, sym, ◌∙◌, ap, subst}
use Rattle.std.specs.Prelude.{Result, Ok, Err, OnOk, IfErr, IsErrOf}
use Rattle.std.proofs.lemmas.Bool.{false≢true, cases_Bool}
use Rattle.disk.specs.declared.device.Disk.{Ghosts}
use Rattle.disk.specs.Crash.{LeavesOnly, MayLeaveNow, history_of}
use Rattle.disk.proofs.CallerLemmas.{begins, leaves_map, goes_on_run, synced_leaves}
use Rattle.refusal.specs.declared.Refusal.{Refusal}
use Rattle.refusal.specs.declared.Refusal.TheVariants.{Fault}
use Rattle.revision.specs.State.{State}
use Rattle.history.specs.Running.{Runs}
use Rattle.milestone.specs.declared.cells.Cells.{Cells}
use Rattle.milestone.specs.Job.{Job}
use Rattle.segments.specs.declared.ring.Ring.{Ring}
use Rattle.segments.specs.Ring.{Fits, at_of, size_of}
use Rattle.recovery.specs.declared.shape.Shape.{Shape}
use Rattle.recovery.specs.declared.marks.Mark.{Mark}
use Rattle.recovery.specs.declared.store.Store.{Store}
use Rattle.recovery.specs.Shape.{slots_place}
use Rattle.recovery.specs.Cells.{AreCellsOf, FitEach}
use Rattle.recovery.specs.Marked.{AreMarked}
use Rattle.recovery.specs.Jobs.{CanAllBePut}
use Rattle.recovery.specs.Found.{FoundAs, HoldsParts, limits_of, commands_of}
use Rattle.recovery.specs.Open.{IsOpen, IsUnchanged, device_of, state_of, has_failed}
use Rattle.recovery.specs.Goes.{Goes}
use Rattle.recovery.proofs.Runs.{found_as, found_open}

module _ {D : Type 0} {disk : Ghosts D} where
  -- a store that a call left unchanged is open still
  pub open_unchanged : {old new : Store D disk} → IsUnchanged old new → IsOpen old → IsOpen new
  open_unchanged {old} {new} same is_open = record {
    synced = subst (λ (d : D). disk.unsynced d ≡ []) (sym same.device) is_open.synced;
    cells = is_open.cells;
    table = is_open.table;
    batches = is_open.batches;
    order = is_open.order;
    holds = subst (λ (s : Shape). HoldsParts (disk.seen new.device) s is_open.cells is_open.table is_open.batches) (sym same.shape)
        (subst (λ (l : List ℕ). HoldsParts l old.shape is_open.cells is_open.table is_open.batches) (sym seen) is_open.holds);
    fits = subst (λ (r : Ring). Fits (disk.seen new.device) r is_open.table) (sym same.ring)
        (subst (λ (l : List ℕ). Fits l old.ring is_open.table) (sym seen) is_open.fits);
    ring_at = ap at_of same.ring ∙ is_open.ring_at ∙ ap slots_place (sym same.shape);
    ring_size = ap size_of same.ring ∙ is_open.ring_size ∙ ap (λ (s : Shape). s.slot) (sym same.shape);
    cells_are = subst (λ (s : Shape). AreCellsOf s new.cells.items) (sym same.shape)
        (subst (λ (l : List Cells). AreCellsOf old.shape l) (sym known) is_open.cells_are);
    cells_fit = subst (λ (l : List ℕ). FitEach l new.cells.items is_open.cells) (sym seen)
        (subst (λ (l : List Cells). FitEach (disk.seen old.device) l is_open.cells) (sym known) is_open.cells_fit);
    marked = subst (λ (m : List Mark). AreMarked is_open.table m) (sym same.marks) is_open.marked;
    limits = ap (λ (s : State). s.limits) same.state ∙ is_open.limits ∙ ap limits_of (sym same.shape);
    runs = subst (λ (s : State). Runs is_open.order is_open.cells (commands_of is_open.batches) s) (sym same.state) is_open.runs;
    kept = subst (λ (l : List Job). CanAllBePut is_open.order is_open.cells l) (sym same.jobs) is_open.kept;
  }
    where
      seen : disk.seen new.device ≡ disk.seen old.device
      seen = ap (λ (d : D). disk.seen d) same.device

      known : new.cells.items ≡ old.cells.items
      known = same.cells

  -- over the same cells and slots
  pub unchanged_cells : {old new : Store D disk} (same : IsUnchanged old new) (is_open : IsOpen old) → (open_unchanged same is_open).cells ≡ is_open.cells
  unfolding open_unchanged
  unchanged_cells same is_open = refl

  pub unchanged_table : {old new : Store D disk} (same : IsUnchanged old new) (is_open : IsOpen old) → (open_unchanged same is_open).table ≡ is_open.table
  unfolding open_unchanged
  unchanged_table same is_open = refl

  -- a call that left the store unchanged left no more than it holds
  pub unchanged_leaves : {P : List ℕ → Type 0} {old new : Store D disk} → IsUnchanged old new → IsOpen old → P (disk.seen (device_of old)) → LeavesOnly disk P (device_of old) (device_of new)
  unchanged_leaves {P} {old} {new} same is_open has = subst (LeavesOnly disk P (device_of old)) (sym same.device) (begins (history_of disk old.device) is_open.synced has)

  -- a crash now leaves what an open store holds
  pub found_now : (store : Store D disk) → IsOpen store → (content : List ℕ) → MayLeaveNow disk (device_of store) content → FoundAs content (state_of store)
  found_now store is_open content left =
      subst (λ (l : List ℕ). FoundAs l store.state) (sym (synced_leaves _ content is_open.synced left)) (found_as _ _ (found_open store is_open))

  -- one call, by its clauses
  pub goes_call : {P : List ℕ → Type 0} {A : Type 0} {old new : Store D disk} (result : Result A Refusal)
      → (has_failed old ≡ true → IsErrOf result Fault × IsUnchanged old new)
      → (has_failed old ≡ false → (has_failed new ≡ true ↔ IsErrOf result Fault))
      → (has_failed old ≡ false → IsOpen old → LeavesOnly disk P (device_of old) (device_of new))
      → OnOk result (IsOpen old → IsOpen new)
      → IfErr result (λ e. e ≢ Fault → IsOpen old → IsOpen new)
      → Goes P old new
  goes_call {P} {A} {old} {new} result failed_before fails any_moment done kept = record {
    any_moment = any_moment;
    opens = opens result failed_before fails done kept;
    stays = λ failed. let same = (failed_before failed).1 in (same.device, same.failed ∙ failed);
  }
    where
      opens : (result : Result A Refusal) → (has_failed old ≡ true → IsErrOf result Fault × IsUnchanged old new)
          → (has_failed old ≡ false → (has_failed new ≡ true ↔ IsErrOf result Fault))
          → OnOk result (IsOpen old → IsOpen new) → IfErr result (λ e. e ≢ Fault → IsOpen old → IsOpen new)
          → has_failed new ≡ false → IsOpen old → IsOpen new
      opens (Ok answer) failed_before fails done kept works = done
      opens (Err refusal) failed_before fails done kept works = kept (λ fault. by_case fault (cases_Bool (has_failed old)))
        where
          by_case : refusal ≡ Fault → (has_failed old ≡ true) ⊎ (has_failed old ≡ false) → ⊥
          by_case fault (inl failed) = false≢true (sym works ∙ ((failed_before failed).1.failed ∙ failed))
          by_case fault (inr unfailed) = false≢true (sym works ∙ (fails unfailed).1 (ap (λ (r : Refusal). Err r) fault))

  -- no call
  pub goes_none : {P : List ℕ → Type 0} (store : Store D disk) → (IsOpen store → P (disk.seen (device_of store))) → Goes P store store
  goes_none {P} store has = record {
    any_moment = λ works is_open. begins (history_of disk store.device) is_open.synced (has is_open);
    opens = λ works is_open. is_open;
    stays = λ failed. (refl, failed);
  }

  -- a call that changes no more than what is kept in memory
  pub goes_still : {P : List ℕ → Type 0} {old new : Store D disk} → device_of new ≡ device_of old → has_failed new ≡ has_failed old
      → (IsOpen old → IsOpen new) → (IsOpen old → P (disk.seen (device_of old))) → Goes P old new
  goes_still {P} {old} {new} device failed keeps has = record {
    any_moment = λ works is_open. subst (LeavesOnly disk P (device_of old)) (sym device) (begins (history_of disk old.device) is_open.synced (has is_open));
    opens = λ works. keeps;
    stays = λ was. (device, failed ∙ was);
  }

  -- what has P has Q
  pub goes_map : {P Q : List ℕ → Type 0} {old new : Store D disk} → ((content : List ℕ) → P content → Q content) → Goes P old new → Goes Q old new
  goes_map implies goes = record {
    any_moment = λ works is_open. leaves_map implies (goes.any_moment works is_open);
    opens = goes.opens;
    stays = goes.stays;
  }

  -- some calls, and then others
  pub goes_on : {P : List ℕ → Type 0} {old mid new : Store D disk} → Goes P old mid → Goes P mid new → Goes P old new
  goes_on {P} {old} {mid} {new} first second = record {
    any_moment = λ works is_open. moments works is_open (cases_Bool (has_failed mid));
    opens = λ works is_open. second.opens works (first.opens (worked works (cases_Bool (has_failed mid))) is_open);
    stays = λ failed. let one = first.stays failed in let two = second.stays one.1 in (two.0 ∙ one.0, two.1);
  }
    where
      worked : has_failed new ≡ false → (has_failed mid ≡ true) ⊎ (has_failed mid ≡ false) → has_failed mid ≡ false
      worked works (inl failed) = absurd (false≢true (sym works ∙ (second.stays failed).1))
      worked works (inr unfailed) = unfailed

      moments : has_failed old ≡ false → IsOpen old → (has_failed mid ≡ true) ⊎ (has_failed mid ≡ false) → LeavesOnly disk P (device_of old) (device_of new)
      moments works is_open (inl failed) = subst (LeavesOnly disk P (device_of old)) (sym (second.stays failed).0) (first.any_moment works is_open)
      moments works is_open (inr unfailed) = goes_on_run (first.any_moment works is_open) (second.any_moment unfailed (first.opens unfailed is_open))

  -- calls that leave the state, one after the other
  pub goes_same : {old mid new : Store D disk} → state_of mid ≡ state_of old → Goes (λ content. FoundAs content (state_of old)) old mid
      → Goes (λ content. FoundAs content (state_of mid)) mid new → Goes (λ content. FoundAs content (state_of old)) old new
  goes_same {old} {mid} {new} same first second =
      goes_on first (subst (λ (s : State). Goes (λ content. FoundAs content s) mid new) same second)

  -- no call, where the state is held by the content
  pub goes_nowhere : (store : Store D disk) → Goes (λ content. FoundAs content (state_of store)) store store
  goes_nowhere store = goes_none store (λ is_open. found_as _ _ (found_open store is_open))

  -- nothing has changed
  pub goes_unchanged : {old new : Store D disk} → IsUnchanged old new → Goes (λ content. FoundAs content (state_of old)) old new
  goes_unchanged {old} same = goes_still same.device same.failed (open_unchanged same) (λ is_open. found_as _ _ (found_open old is_open))
