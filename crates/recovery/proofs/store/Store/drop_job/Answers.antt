use Rattle.std.proofs.Common.{List, sym, subst}
use Rattle.milestone.specs.Job.{Job}
use Rattle.recovery.specs.Found.{limits_of}
use Rattle.recovery.specs.Jobs.{jobs_of, without_job, AllKeep, CanAllBePut, KeepsLimits}
use Rattle.recovery.proofs.KeptJobs.{all_passing, kept_without}
use Rattle.recovery.proofs.store.Store.drop_job.Goals as goal
use Rattle.std.specs.Prelude.{◌==◌, not}

pub invariant_of-self-clause-composable : goal.invariant_of-self-clause-composable
invariant_of-self-clause-composable g c =
    let store = c.args.self.now in
    let fewer : AllKeep (limits_of store.shape) (without_job c.args.document (jobs_of store.jobs)) =
    all_passing (KeepsLimits (limits_of store.shape)) (λ (job : Job). not (job.document == c.args.document)) (jobs_of store.jobs) store.composable in
    subst (AllKeep (limits_of store.shape)) (sym c.forget.ensures) fewer

pub returns-clause-open : goal.returns-clause-open
returns-clause-open g c is_open =
    let kept = kept_without is_open.order is_open.cells c.args.document (jobs_of c.args.self.now.jobs) is_open.kept in
    record {
      synced = is_open.synced;
      cells = is_open.cells;
      table = is_open.table;
      batches = is_open.batches;
      order = is_open.order;
      holds = is_open.holds;
      fits = is_open.fits;
      ring_at = is_open.ring_at;
      ring_size = is_open.ring_size;
      cells_are = is_open.cells_are;
      cells_fit = is_open.cells_fit;
      marked = is_open.marked;
      limits = is_open.limits;
      runs = is_open.runs;
      kept = subst (λ (l : List Job). CanAllBePut is_open.order is_open.cells l) (sym c.forget.ensures) kept;
    }
