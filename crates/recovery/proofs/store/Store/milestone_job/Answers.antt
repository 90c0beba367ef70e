use Rattle.std.proofs.Common.{◌≡◌, ◌∙◌, Option, None, Err, true, List, rules, refl, sym, ap, subst}
use Rattle.std.specs.Prelude.{slice_get}
use Rattle.revision.specs.State.{Limits, DocumentRecord}
use Rattle.history.specs.Cell.{cells_at}
use Rattle.milestone.specs.Job.{Job}
use Rattle.recovery.specs.Found.{limits_of, commands_of}
use Rattle.recovery.specs.Jobs.{highest, no_job_for, no_job_of, jobs_of, CanAllBePut, KeepsLimits, with_job}
use Rattle.recovery.proofs.Going.{open_unchanged}
use Rattle.recovery.proofs.Retirement.{known_highest}
use Rattle.recovery.proofs.KeptJobs.{handed_out, kept_with}
use Rattle.recovery.proofs.HandedOut.{held_here, keep_after}
use Rattle.recovery.proofs.WhereDue.{due_ok, due_memory, due_failed, due_of, due_as}
use Rattle.recovery.proofs.store.Store.milestone_job.Goals as goal

-- why there is no job
pub returns-then-self-clause-due : goal.returns-then-self-clause-due
returns-then-self-clause-due g c =
    let failed : c.args.self.now.failed ≡ true = search rules in
    due_failed c.args.document c.args.revision c.args.self.now failed

pub returns-in_err-job-clause-due : goal.returns-in_err-job-clause-due
returns-in_err-job-clause-due g c =
    let gives : c.from_residual.result ≡ Err c.in_err-job.field-0.0 = search rules in
    due_as c.args.document c.args.revision c.args.self.now c.from_residual.result c.in_err-job.field-0.0 gives
    (due_of c.args.document c.args.revision c.args.self.now c.job_to.result c.in_err-job.field-0.0 c.in_err-job.was c.in_err-job.ensures.only c.in_err-job.ensures.refusal
    c.job_to.ensures.refused)

-- memory alone is in the way once there is a job
pub returns-in_err-copy-clause-due : goal.returns-in_err-copy-clause-due
returns-in_err-copy-clause-due g c =
    due_memory c.args.document c.args.revision c.args.self.now c.from_residual-in_err-copy.result c.from_residual-in_err-copy.ensures.1 c.in_ok-job.ensures.given

pub returns-in_err-keep-clause-due : goal.returns-in_err-keep-clause-due
returns-in_err-keep-clause-due g c =
    due_memory c.args.document c.args.revision c.args.self.now c.from_residual-in_err-keep.result c.from_residual-in_err-keep.ensures.1 c.in_ok-job.ensures.given

pub returns-clause-due : goal.returns-clause-due
returns-clause-due g c = due_ok c.args.document c.args.revision c.args.self.now c.in_ok-job.job c.in_ok-job.ensures.given

pub invariant_of-self-clause-composable : goal.invariant_of-self-clause-composable
invariant_of-self-clause-composable g c =
    let store = c.args.self.now in
    let copied : c.in_ok-copy.copy ≡ c.in_ok-job.job = c.in_ok-copy.ensures.same in
    let one : KeepsLimits store.state.limits c.in_ok-copy.copy = subst (KeepsLimits store.state.limits) (sym copied) c.in_ok-job.ensures.keeps in
    let fit : KeepsLimits (limits_of store.shape) c.in_ok-copy.copy = subst (λ (l : Limits). KeepsLimits l c.in_ok-copy.copy) store.bounded one in
    keep_after c.keep.result (limits_of store.shape) c.in_ok-copy.copy (jobs_of store.jobs) (jobs_of c.keep.new.self) c.keep.ensures.ok c.keep.ensures.err fit store.composable

pub returns-clause-open : goal.returns-clause-open
returns-clause-open g c is_open =
    let store = c.args.self.now in
    let job = c.in_ok-job.job in
    let to = c.in_ok-job.ensures.job in
    let none : no_job_of to.found (highest (cells_at is_open.cells c.args.document)) c.args.revision ≡ None =
    ap (λ (d : Option DocumentRecord). no_job_for d (highest (cells_at is_open.cells c.args.document)) c.args.revision) (sym to.there)
    ∙ ap (λ n. no_job_for (slice_get store.state.documents c.args.document) n c.args.revision) (sym (known_highest store is_open c.args.document)) ∙ c.in_ok-job.ensures.given in
    let kept : CanAllBePut is_open.order is_open.cells (with_job job (jobs_of store.jobs)) =
    kept_with is_open.order is_open.cells job (jobs_of store.jobs)
    (handed_out is_open.order is_open.cells (commands_of is_open.batches) store.state c.args.document c.args.revision job is_open.runs to (held_here to.found (highest (cells_at is_open.cells c.args.document)) c.args.revision none).3)
    is_open.kept in
    let now : jobs_of c.keep.new.self ≡ with_job job (jobs_of store.jobs) = c.in_ok-keep.ensures.ok ∙ ap (λ (j : Job). with_job j (jobs_of store.jobs)) c.in_ok-copy.ensures.same in
    record {
      synced = is_open.synced;
      cells = is_open.cells;
      table = is_open.table;
      batches = is_open.batches;
      order = is_open.order;
      holds = is_open.holds;
      fits = is_open.fits;
      ring_at = is_open.ring_at;
      ring_size = is_open.ring_size;
      cells_are = is_open.cells_are;
      cells_fit = is_open.cells_fit;
      marked = is_open.marked;
      limits = is_open.limits;
      runs = is_open.runs;
      kept = subst (λ (l : List Job). CanAllBePut is_open.order is_open.cells l) (sym now) kept;
    }

-- the job that was handed out is kept
pub returns-clause-given : goal.returns-clause-given
unfolding returns-clause-open
returns-clause-given g c =
    let store = c.args.self.now in
    record {
      to = c.in_ok-job.ensures.job;
      made = c.in_ok-job.ensures.made;
      kept = c.in_ok-keep.ensures.ok ∙ ap (λ (j : Job). with_job j (jobs_of store.jobs)) c.in_ok-copy.ensures.same;
      over = λ is_open. record { goes_on = returns-clause-open g c is_open; same_cells = refl; same_table = refl };
    }

-- where the copy finds no place nothing has changed
pub returns-in_err-keep-clause-open : goal.returns-in_err-keep-clause-open
returns-in_err-keep-clause-open g c is_open =
    open_unchanged (record { device = refl; shape = refl; ring = refl; cells = refl; marks = refl; jobs = c.in_err-keep.ensures.err; state = refl; failed = refl }) is_open
