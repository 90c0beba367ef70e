use Rattle.std.proofs.Common.{◌≡◌, ⊎_elim, ◌∙◌, ◌<◌, ◌≤◌, ℕ, length, set, inl, inr, refl, sym, ap, subst, rules, arith}
use Rattle.std.specs.Prelude.{Contains, Err, ◌+◌, ◌^◌}
use Rattle.disk.specs.Crash.{history_of}
use Rattle.disk.proofs.CallerLemmas.{begins, leaves_map}
use Rattle.history.specs.Cell.{Cell, cells_at}
use Rattle.history.specs.Running.{Runs}
use Rattle.milestone.specs.Job.{Job, cell_of_job}
use Rattle.milestone.specs.CellSpelling.{IsCell, cell_body}
use Rattle.milestone.specs.Cells.{IsLeftByReplacing, FitsNow, number_of, size_of}
use Rattle.refusal.specs.declared.Refusal.{Refusal}
use Rattle.refusal.specs.declared.Refusal.TheVariants.{NoMemory, Stranger, Fault}
use Rattle.recovery.specs.Jobs.{CanAllBePut, AllKeep, without_job}
use Rattle.recovery.specs.Open.{kept_jobs}
use Rattle.recovery.proofs.Commits.{found_before}
use Rattle.recovery.proofs.Refusals.{refusal_or}
use Rattle.recovery.proofs.Putting.{keeps, inside_items, its_cells, cells_within, is_cell, fits_cell, never_heavy, placed_later, composable_later, put_back, kept_one, fits_one, left_putting, after, runs_after, parts_now, ring_stays, fit_now}
use Rattle.recovery.proofs.KeptJobs.{kept_put}
use Rattle.recovery.proofs.Going.{open_unchanged}
use Rattle.recovery.specs.Cells.{FitEach}
use Rattle.recovery.specs.Found.{commands_of, limits_of}
use Rattle.disk.specs.Crash.{LeavesOnly}
use Rattle.history.specs.Cell.{with_pair, freed}
use Rattle.milestone.specs.Cells.{with_cell}
use Rattle.milestone.specs.CellSpelling.{inserts_of}
use Rattle.revision.specs.Sources.{count_of}
use Rattle.revision.specs.State.{State}
use Rattle.revision.specs.Width.{delta_width}
use Rattle.recovery.proofs.store.Store.put_milestone.Goals as goal

-- nothing was called
pub returns-then-not-is_kept-clause-any_moment : goal.returns-then-not-is_kept-clause-any_moment
returns-then-not-is_kept-clause-any_moment g c unfailed is_open =
    begins (history_of g.D.Disk c.args.self.now.device) is_open.synced (found_before c.args.self.now is_open)

pub returns-in-Err-clause-any_moment : goal.returns-in-Err-clause-any_moment
returns-in-Err-clause-any_moment g c unfailed is_open =
    begins (history_of g.D.Disk c.args.self.now.device) is_open.synced (found_before c.args.self.now is_open)

-- a kept job's content is light enough to be spelled
pub returns-in-Err-clause-only : goal.returns-in-Err-clause-only
returns-in-Err-clause-only g c =
    let store = c.args.self.now in
    let job : Job = c.args.composed.now in
    let contains : Contains (kept_jobs store) job = search rules in
    let document = c.document_number-document.result in
    let milestone : c.milestone-milestone.result.now ≡ cell_of_job job = c.milestone-milestone.ensures in
    ⊎_elim
    (λ heavy. absurd (never_heavy store job contains (subst (λ (m : Cell). 2 ^ 32 ≤ delta_width (inserts_of m.content.units)) milestone (c.in-Err.ensures.heavy (ap (λ (r : Refusal). Err r) heavy)))))
    (λ memory. inr (inl memory)) c.in-Err.ensures.only

-- the cells of the document
pub index_mut-requires : goal.index_mut-requires
index_mut-requires g c =
    let store = c.args.self.now in
    let job : Job = c.args.composed.now in
    let contains : Contains (kept_jobs store) job = search rules in
    omega (arith, inside_items store job contains c.document_number-document.result (c.document_number-document.ensures ∙ ap (λ (j : Job). j.document) c.job-job.ensures), store.cells.ok.0)

pub replace_older-requires-clause-within : goal.replace_older-requires-clause-within
replace_older-requires-clause-within g c =
    let store = c.args.self.now in
    let job : Job = c.args.composed.now in
    let document = c.document_number-document.result in
    let contains : Contains (kept_jobs store) job = search rules in
    let is : document ≡ job.document = c.document_number-document.ensures ∙ ap (λ (j : Job). j.document) c.job-job.ensures in
    let one = c.index_mut.result.now in
    let read = c.index_mut.ensures.value in
    cells_within store job contains document is one read

pub replace_older-requires-clause-is : goal.replace_older-requires-clause-is
replace_older-requires-clause-is g c =
    let store = c.args.self.now in
    let job : Job = c.args.composed.now in
    let document = c.document_number-document.result in
    let contains : Contains (kept_jobs store) job = search rules in
    let is : document ≡ job.document = c.document_number-document.ensures ∙ ap (λ (j : Job). j.document) c.job-job.ensures in
    let one = c.index_mut.result.now in
    let read = c.index_mut.ensures.value in
    let milestone : c.milestone-milestone.result.now ≡ cell_of_job job = c.milestone-milestone.ensures in
    subst (IsCell (number_of one)) (sym milestone)
    (is_cell store job contains document is one read
    (subst (λ (m : Cell). (number : ℕ) → number < 2 ^ 32 → count_of m.sources < 2 ^ 32 → IsCell number m) milestone c.in_default.ensures.is_cell))

pub replace_older-requires-clause-fits : goal.replace_older-requires-clause-fits
replace_older-requires-clause-fits g c =
    let store = c.args.self.now in
    let job : Job = c.args.composed.now in
    let document = c.document_number-document.result in
    let contains : Contains (kept_jobs store) job = search rules in
    let is : document ≡ job.document = c.document_number-document.ensures ∙ ap (λ (j : Job). j.document) c.job-job.ensures in
    let one = c.index_mut.result.now in
    let read = c.index_mut.ensures.value in
    let milestone : c.milestone-milestone.result.now ≡ cell_of_job job = c.milestone-milestone.ensures in
    subst (λ (m : Cell). 5 + length (cell_body (number_of one) m) ≤ size_of one) (sym milestone)
    (fits_cell store job contains document is one read (is_cell store job contains document is one read
    (subst (λ (m : Cell). (number : ℕ) → number < 2 ^ 32 → count_of m.sources < 2 ^ 32 → IsCell number m) milestone c.in_default.ensures.is_cell)))

-- what the store keeps
pub invariant_of-self-in-Ok-clause-placed : goal.invariant_of-self-in-Ok-clause-placed
invariant_of-self-in-Ok-clause-placed g c =
    let store = c.args.self.now in
    let job : Job = c.args.composed.now in
    let document = c.document_number-document.result in
    let contains : Contains (kept_jobs store) job = search rules in
    let is : document ≡ job.document = c.document_number-document.ensures ∙ ap (λ (j : Job). j.document) c.job-job.ensures in
    let one = c.index_mut.result.now in
    let read = c.index_mut.ensures.value in
    placed_later store job contains document is one read c.replace_older.new.self c.replace_older.ensures.same

pub invariant_of-self-in-Ok-clause-composable : goal.invariant_of-self-in-Ok-clause-composable
invariant_of-self-in-Ok-clause-composable g c =
    let store = c.args.self.now in
    subst (AllKeep (limits_of store.shape)) (sym c.forget.ensures) (composable_later store c.document_number-document.result)

pub invariant_of-self-in-Err-replace_older-clause-placed : goal.invariant_of-self-in-Err-replace_older-clause-placed
invariant_of-self-in-Err-replace_older-clause-placed g c =
    let store = c.args.self.now in
    let job : Job = c.args.composed.now in
    let document = c.document_number-document.result in
    let contains : Contains (kept_jobs store) job = search rules in
    let is : document ≡ job.document = c.document_number-document.ensures ∙ ap (λ (j : Job). j.document) c.job-job.ensures in
    let one = c.index_mut.result.now in
    let read = c.index_mut.ensures.value in
    placed_later store job contains document is one read c.replace_older.new.self c.replace_older.ensures.same

-- the cell was put, or a crash within that
pub returns-in-Ok-clause-any_moment : goal.returns-in-Ok-clause-any_moment
returns-in-Ok-clause-any_moment g c unfailed is_open =
    let store = c.args.self.now in
    let job : Job = c.args.composed.now in
    let document = c.document_number-document.result in
    let contains : Contains (kept_jobs store) job = search rules in
    let is : document ≡ job.document = c.document_number-document.ensures ∙ ap (λ (j : Job). j.document) c.job-job.ensures in
    let one = c.index_mut.result.now in
    let read = c.index_mut.ensures.value in
    let milestone : c.milestone-milestone.result.now ≡ cell_of_job job = c.milestone-milestone.ensures in
    leaves_map (left_putting store is_open job (kept_one store job contains document is one read is_open) (keeps store job contains document is one read).inside one (its_cells store job contains document is one read))
    (subst (λ (m : Cell). LeavesOnly g.D.Disk (IsLeftByReplacing (g.D.Disk.seen store.device) one (cells_at is_open.cells job.document) m) store.device c.replace_older.new.disk) milestone
    (c.replace_older.ensures.any_moment (cells_at is_open.cells job.document) is_open.synced (fits_one store job contains document is one read is_open)))

pub returns-in-Err-replace_older-clause-any_moment : goal.returns-in-Err-replace_older-clause-any_moment
returns-in-Err-replace_older-clause-any_moment g c unfailed is_open =
    let store = c.args.self.now in
    let job : Job = c.args.composed.now in
    let document = c.document_number-document.result in
    let contains : Contains (kept_jobs store) job = search rules in
    let is : document ≡ job.document = c.document_number-document.ensures ∙ ap (λ (j : Job). j.document) c.job-job.ensures in
    let one = c.index_mut.result.now in
    let read = c.index_mut.ensures.value in
    let milestone : c.milestone-milestone.result.now ≡ cell_of_job job = c.milestone-milestone.ensures in
    leaves_map (left_putting store is_open job (kept_one store job contains document is one read is_open) (keeps store job contains document is one read).inside one (its_cells store job contains document is one read))
    (subst (λ (m : Cell). LeavesOnly g.D.Disk (IsLeftByReplacing (g.D.Disk.seen store.device) one (cells_at is_open.cells job.document) m) store.device c.replace_older.new.disk) milestone
    (c.replace_older.ensures.any_moment (cells_at is_open.cells job.document) is_open.synced (fits_one store job contains document is one read is_open)))

pub returns-in-Ok-clause-done : goal.returns-in-Ok-clause-done
returns-in-Ok-clause-done g c is_open =
    let store = c.args.self.now in
    let job : Job = c.args.composed.now in
    let document = c.document_number-document.result in
    let contains : Contains (kept_jobs store) job = search rules in
    let is : document ≡ job.document = c.document_number-document.ensures ∙ ap (λ (j : Job). j.document) c.job-job.ensures in
    let one = c.index_mut.result.now in
    let read = c.index_mut.ensures.value in
    let milestone : c.milestone-milestone.result.now ≡ cell_of_job job = c.milestone-milestone.ensures in
    let now_kept = kept_one store job contains document is one read is_open in
    let inside = (keeps store job contains document is one read).inside in
    let its = its_cells store job contains document is one read in
    let now : FitsNow (g.D.Disk.seen store.device) one (g.D.Disk.seen c.replace_older.new.disk) c.replace_older.new.self (after store is_open job now_kept inside one its) =
    subst (λ (m : Cell). FitsNow (g.D.Disk.seen store.device) one (g.D.Disk.seen c.replace_older.new.disk) c.replace_older.new.self (with_cell m (freed (cells_at is_open.cells job.document)))) milestone
    (c.in-Ok.ensures.done (cells_at is_open.cells job.document) (fits_one store job contains document is one read is_open)) in
    record {
      goes_on = record {
        synced = c.in-Ok.ensures.synced;
        cells = with_pair job.document (after store is_open job now_kept inside one its) is_open.cells;
        table = is_open.table;
        batches = is_open.batches;
        order = is_open.order;
        holds = parts_now store is_open job now_kept inside one its _ c.replace_older.new.self now;
        fits = ring_stays store is_open job now_kept inside one its _ now.outside;
        ring_at = is_open.ring_at;
        ring_size = is_open.ring_size;
        cells_are = placed_later store job contains document is one read c.replace_older.new.self now.same;
        cells_fit = subst (λ n. FitEach (g.D.Disk.seen c.replace_older.new.disk) (set store.cells.items n c.replace_older.new.self) (with_pair job.document (after store is_open job now_kept inside one its) is_open.cells)) (sym is)
            (fit_now store is_open job now_kept inside one its _ c.replace_older.new.self now);
        marked = is_open.marked;
        limits = subst (λ (s : State). s.limits ≡ limits_of store.shape) (sym c.prune_one.ensures) is_open.limits;
        runs = subst (Runs is_open.order (with_pair job.document (after store is_open job now_kept inside one its) is_open.cells) (commands_of is_open.batches)) (sym c.prune_one.ensures)
            (runs_after store is_open job now_kept inside one its);
        kept = subst (CanAllBePut is_open.order (with_pair job.document (after store is_open job now_kept inside one its) is_open.cells))
            (ap (λ n. without_job n (kept_jobs store)) (sym is) ∙ sym c.forget.ensures)
            (kept_put is_open.order is_open.cells job.document (after store is_open job now_kept inside one its) (kept_jobs store) is_open.kept);
      };
      same_table = refl;
      put = refl;
    }

-- refused as out of memory: nothing was called
pub returns-in-Err-replace_older-clause-untouched : goal.returns-in-Err-replace_older-clause-untouched
returns-in-Err-replace_older-clause-untouched g c told =
    let store = c.args.self.now in
    let job : Job = c.args.composed.now in
    let document = c.document_number-document.result in
    let contains : Contains (kept_jobs store) job = search rules in
    let is : document ≡ job.document = c.document_number-document.ensures ∙ ap (λ (j : Job). j.document) c.job-job.ensures in
    let one = c.index_mut.result.now in
    let read = c.index_mut.ensures.value in
    let memory : c.in-Err-replace_older.refusal ≡ NoMemory =
    ⊎_elim (λ stranger. ⊎_elim (λ is_memory. is_memory) (λ fault. let both : Stranger ≡ Fault = sym (ap (refusal_or Fault) stranger) ∙ fault in absurd cc) c.in-Err-replace_older.ensures.only)
    (λ is_memory. ap (refusal_or NoMemory) is_memory) told in
    let same = c.in-Err-replace_older.ensures.untouched (ap (λ (r : Refusal). Err r) memory) in
    record {
      device = same.0;
      shape = refl;
      ring = refl;
      cells = put_back store job contains document is one read c.replace_older.new.self same.1;
      marks = refl;
      jobs = refl;
      state = refl;
      failed = rw (c.eq-self.ensures, memory) (search rules);
    }

pub returns-in-Err-replace_older-clause-kept : goal.returns-in-Err-replace_older-clause-kept
returns-in-Err-replace_older-clause-kept g c not_fault is_open =
    let store = c.args.self.now in
    let job : Job = c.args.composed.now in
    let document = c.document_number-document.result in
    let contains : Contains (kept_jobs store) job = search rules in
    let is : document ≡ job.document = c.document_number-document.ensures ∙ ap (λ (j : Job). j.document) c.job-job.ensures in
    let one = c.index_mut.result.now in
    let read = c.index_mut.ensures.value in
    let memory : c.in-Err-replace_older.refusal ≡ NoMemory = ⊎_elim (λ is_memory. is_memory) (λ fault. absurd (not_fault fault)) c.in-Err-replace_older.ensures.only in
    let same = c.in-Err-replace_older.ensures.untouched (ap (λ (r : Refusal). Err r) memory) in
    open_unchanged {old = store} (record {
      device = same.0;
      shape = refl;
      ring = refl;
      cells = put_back store job contains document is one read c.replace_older.new.self same.1;
      marks = refl;
      jobs = refl;
      state = refl;
      failed = rw (c.eq-self.ensures, memory) (search rules);
    }) is_open
