use Rattle.std.proofs.Common.{◌≡◌, ◌⊎◌, ◌∙◌, ⊎_elim, inl, inr, sym, ap}
use Rattle.std.specs.Prelude.{Result, Ok, Err, IsErrOf}
use Rattle.refusal.specs.declared.Refusal.{Refusal}
use Rattle.refusal.specs.declared.Refusal.TheVariants.{NoMemory, Fault}
use Rattle.milestone.specs.Job.{Job}
use Rattle.recovery.specs.Jobs.{without_job}
use Rattle.recovery.specs.Open.{IsOpen, kept_jobs}
use Rattle.recovery.proofs.Refusals.{refusal_or, memory_no_fault}
use Rattle.recovery.proofs.Faults.{faults_none, faults_on, faults_told, goes_by, goes_but_jobs}
use Rattle.recovery.proofs.Going.{goes_same}
use Rattle.recovery.proofs.PutAtOnce.{no_stranger_put, had_not_failed, put_at, refused_unfailed}
use Rattle.recovery.proofs.OtherJobs.{others_with, others_without}
use Rattle.recovery.proofs.Unwritten.{but_jobs, but_jobs_on, few_none, few_behind}
use Rattle.recovery.proofs.WhereDue.{due_ok, due_none, due_told, may_by, may_by_memory}
use Rattle.recovery.proofs.store.Store.put_at_once.Goals as goal

-- a fault is told where the job or the put told it
pub returns-in-Err-clause-faults : goal.returns-in-Err-clause-faults
returns-in-Err-clause-faults g c = faults_told c.in-Err.refusal c.in-Err.ensures.faults

pub returns-in-Err-compose_job-clause-faults : goal.returns-in-Err-compose_job-clause-faults
returns-in-Err-compose_job-clause-faults g c =
    let refusal = c.in-Err-compose_job.back.refusal in
    let other : ¬ IsErrOf {T = Unit {0}} {E = Refusal} (Err refusal) Fault =
    λ told. let same : NoMemory ≡ Fault = sym c.in-Err-compose_job.ensures.only ∙ ap (refusal_or {T = Unit {0}} Fault) told in cc in
    faults_on c.in-Ok.job (Err refusal) c.in-Ok.ensures.faults (faults_none c.milestone_job.new.self (Err refusal) c.in-Ok.ensures.faults.works other)

pub returns-in-Err-put_milestone-clause-faults : goal.returns-in-Err-put_milestone-clause-faults
returns-in-Err-put_milestone-clause-faults g c = faults_on c.in-Ok.job (Err c.in-Err-put_milestone.refusal) c.in-Ok.ensures.faults c.in-Err-put_milestone.ensures.faults

pub returns-clause-faults : goal.returns-clause-faults
returns-clause-faults g c = faults_on c.in-Ok.job (Ok c.in_default.field-0) c.in-Ok.ensures.faults c.in_default.ensures.faults

-- what speaks against the milestone refused its job, and nothing does once that was given
pub returns-in-Err-clause-due : goal.returns-in-Err-clause-due
returns-in-Err-clause-due g c = due_told c.args.document c.args.revision c.args.self.now c.in-Err.refusal c.in-Err.ensures.due

pub returns-in-Err-compose_job-clause-due : goal.returns-in-Err-compose_job-clause-due
returns-in-Err-compose_job-clause-due g c =
    let store = c.args.self.now in
    let may = may_by c.args.document c.args.revision store c.in-Ok.job (had_not_failed c.in-Ok.job c.in-Ok.ensures.faults.failed_before) c.in-Ok.ensures.due in
    due_none c.args.document c.args.revision store c.in-Err-compose_job.back.refusal may (inl c.in-Err-compose_job.ensures.only)

pub returns-in-Err-put_milestone-clause-due : goal.returns-in-Err-put_milestone-clause-due
returns-in-Err-put_milestone-clause-due g c =
    let store = c.args.self.now in
    let may = may_by c.args.document c.args.revision store c.in-Ok.job (had_not_failed c.in-Ok.job c.in-Ok.ensures.faults.failed_before) c.in-Ok.ensures.due in
    let refused = c.in-Err-put_milestone.ensures in
    due_none c.args.document c.args.revision store c.in-Err-put_milestone.refusal may
    (no_stranger_put c.in-Ok.job c.in-Ok-compose_job.composed store c.milestone_job.new.self c.in-Err-put_milestone.refusal c.in-Ok.ensures.given.kept c.in-Ok-compose_job.ensures.done
    (refused.stranger c.in-Ok.ensures.faults.works).0 refused.only)

pub returns-clause-due : goal.returns-clause-due
returns-clause-due g c =
    let store = c.args.self.now in
    let may = may_by c.args.document c.args.revision store c.in-Ok.job (had_not_failed c.in-Ok.job c.in-Ok.ensures.faults.failed_before) c.in-Ok.ensures.due in
    due_ok c.args.document c.args.revision store c.in_default.field-0 may

-- nothing was put, and the job may be kept
pub returns-in-Err-clause-left : goal.returns-in-Err-clause-left
returns-in-Err-clause-left g c =
    let same = c.in-Err.ensures.untouched in
    record {
      untouched = λ memory fault. same;
      unwritten = λ fault. same.device;
      memory = λ is.
          let works = refused_unfailed {A = Job} c.args.self.now c.milestone_job.new.self c.in-Err.refusal c.in-Err.ensures.faults.failed_before (memory_no_fault is) in
          (may_by_memory c.args.document c.args.revision c.args.self.now c.in-Err.refusal is works c.in-Err.ensures.due, but_jobs same);
      job = inl same.jobs;
    }

pub returns-in-Err-compose_job-clause-left : goal.returns-in-Err-compose_job-clause-left
returns-in-Err-compose_job-clause-left g c =
    let given = c.in-Ok.ensures.given in
    let may = may_by c.args.document c.args.revision c.args.self.now c.in-Ok.job (had_not_failed c.in-Ok.job c.in-Ok.ensures.faults.failed_before) c.in-Ok.ensures.due in
    record {
      untouched = λ memory fault. absurd (memory c.in-Err-compose_job.ensures.only);
      unwritten = λ fault. c.milestone_job.ensures.same.device;
      memory = λ is. (may, c.milestone_job.ensures.same);
      job = inr (c.in-Ok.job, (given.to, given.made), given.kept);
    }

pub returns-in-Err-put_milestone-clause-left : goal.returns-in-Err-put_milestone-clause-left
returns-in-Err-put_milestone-clause-left g c =
    let store = c.args.self.now in
    let given = c.in-Ok.ensures.given in
    let same = c.milestone_job.ensures.same in
    let may = may_by c.args.document c.args.revision store c.in-Ok.job (had_not_failed c.in-Ok.job c.in-Ok.ensures.faults.failed_before) c.in-Ok.ensures.due in
    let refused = c.in-Err-put_milestone.ensures in
    let two = no_stranger_put c.in-Ok.job c.in-Ok-compose_job.composed store c.milestone_job.new.self c.in-Err-put_milestone.refusal given.kept c.in-Ok-compose_job.ensures.done
    (refused.stranger c.in-Ok.ensures.faults.works).0 refused.only in
    record {
      untouched = λ memory fault. ⊎_elim (λ is. absurd (memory is)) (λ is. absurd (fault is)) two;
      unwritten = λ fault. ⊎_elim (λ is. (refused.untouched (inr (ap (λ (r : Refusal). Err r) is))).device ∙ same.device) (λ is. absurd (fault is)) two;
      memory = λ is. (may, but_jobs_on same (but_jobs (refused.untouched (inr (ap (λ (r : Refusal). Err r) is)))));
      job = inr (c.in-Ok.job, (given.to, given.made), refused.jobs ∙ given.kept);
    }

-- the kept jobs of other documents
pub returns-in-Err-clause-stays : goal.returns-in-Err-clause-stays
returns-in-Err-clause-stays g c =
    let same = c.in-Err.ensures.untouched in
    record { state = same.state; ring = same.ring; marks = same.marks; jobs = ap (without_job c.args.document) same.jobs }

pub returns-in-Err-compose_job-clause-stays : goal.returns-in-Err-compose_job-clause-stays
returns-in-Err-compose_job-clause-stays g c =
    let same = c.milestone_job.ensures.same in
    let given = c.in-Ok.ensures.given in
    record {
      state = same.state;
      ring = same.ring;
      marks = same.marks;
      jobs = ap (without_job c.args.document) given.kept ∙ others_with c.args.document c.in-Ok.job (kept_jobs c.args.self.now) given.to.number;
    }

pub returns-in-Err-put_milestone-clause-stays : goal.returns-in-Err-put_milestone-clause-stays
returns-in-Err-put_milestone-clause-stays g c =
    let same = c.milestone_job.ensures.same in
    let given = c.in-Ok.ensures.given in
    record {
      state = c.put_milestone.ensures.state ∙ same.state;
      ring = c.put_milestone.ensures.ring ∙ same.ring;
      marks = c.put_milestone.ensures.marks ∙ same.marks;
      jobs = ap (without_job c.args.document) (c.in-Err-put_milestone.ensures.jobs ∙ given.kept) ∙ others_with c.args.document c.in-Ok.job (kept_jobs c.args.self.now) given.to.number;
    }

pub returns-clause-stays : goal.returns-clause-stays
returns-clause-stays g c =
    let document = c.args.document in
    let same = c.milestone_job.ensures.same in
    let given = c.in-Ok.ensures.given in
    let composed : c.in-Ok-compose_job.composed ≡ c.in-Ok.job = c.in-Ok-compose_job.ensures.done in
    let number = ap (λ (j : Job). j.document) composed ∙ given.to.number in
    record {
      state = c.put_milestone.ensures.state ∙ same.state;
      ring = c.put_milestone.ensures.ring ∙ same.ring;
      marks = c.put_milestone.ensures.marks ∙ same.marks;
      jobs = ap (without_job document) c.in_default.ensures.dropped
          ∙ others_without document c.in-Ok-compose_job.composed.document (kept_jobs c.milestone_job.new.self) number
          ∙ ap (without_job document) given.kept
          ∙ others_with document c.in-Ok.job (kept_jobs c.args.self.now) given.to.number;
    }

-- no call of the device came before the put, and a crash within that leaves the state
pub returns-in-Err-clause-goes : goal.returns-in-Err-clause-goes
returns-in-Err-clause-goes g c = goes_but_jobs c.args.self.now c.milestone_job.new.self c.milestone_job.ensures.same c.milestone_job.ensures.open

pub returns-in-Err-compose_job-clause-goes : goal.returns-in-Err-compose_job-clause-goes
returns-in-Err-compose_job-clause-goes g c = goes_but_jobs c.args.self.now c.milestone_job.new.self c.milestone_job.ensures.same c.milestone_job.ensures.open

pub returns-in-Err-put_milestone-clause-goes : goal.returns-in-Err-put_milestone-clause-goes
returns-in-Err-put_milestone-clause-goes g c =
    let e = c.in-Err-put_milestone.ensures in
    let put : Result (Unit {0}) Refusal = Err c.in-Err-put_milestone.refusal in
    goes_same c.milestone_job.ensures.same.state
    (goes_but_jobs c.args.self.now c.milestone_job.new.self c.milestone_job.ensures.same c.milestone_job.ensures.open)
    (goes_by put e.faults c.put_milestone.ensures.any_moment tt e.kept)

pub returns-clause-goes : goal.returns-clause-goes
returns-clause-goes g c =
    let e = c.in_default.ensures in
    let put : Result (Unit {0}) Refusal = Ok c.in_default.field-0 in
    goes_same c.milestone_job.ensures.same.state
    (goes_but_jobs c.args.self.now c.milestone_job.new.self c.milestone_job.ensures.same c.milestone_job.ensures.open)
    (goes_by put e.faults c.put_milestone.ensures.any_moment (λ is_open. (e.done is_open).goes_on) tt)

-- nothing spoke against the job that was handed out, and its cell is open
pub returns-clause-taken : goal.returns-clause-taken
returns-clause-taken g c =
    let store = c.args.self.now in
    let given = c.in-Ok.ensures.given in
    let opens = λ (is_open : IsOpen store). let still = given.over is_open in
    put_at store c.put_milestone.new.self c.args.document c.args.revision is_open c.in-Ok.job c.in-Ok-compose_job.composed still.goes_on.cells still.goes_on.table still.same_cells still.same_table
    c.in-Ok-compose_job.ensures.done given.to (c.in_default.ensures.done still.goes_on) in (
      c.in_default.ensures.faults.works,
      c.put_milestone.ensures.state ∙ c.milestone_job.ensures.same.state,
      may_by c.args.document c.args.revision store c.in-Ok.job (had_not_failed c.in-Ok.job c.in-Ok.ensures.faults.failed_before) c.in-Ok.ensures.due,
      opens,
    )

-- the job that was kept is dropped
pub returns-clause-dropped : goal.returns-clause-dropped
returns-clause-dropped g c =
    let document = c.args.document in
    let given = c.in-Ok.ensures.given in
    let composed : c.in-Ok-compose_job.composed ≡ c.in-Ok.job = c.in-Ok-compose_job.ensures.done in
    let number = ap (λ (j : Job). j.document) composed ∙ given.to.number in
    c.in_default.ensures.dropped
    ∙ ap (λ n. without_job n (kept_jobs c.milestone_job.new.self)) number
    ∙ ap (without_job document) given.kept
    ∙ others_with document c.in-Ok.job (kept_jobs c.args.self.now) given.to.number

-- the put alone makes calls of the device
pub returns-in-Err-clause-calls : goal.returns-in-Err-clause-calls
returns-in-Err-clause-calls g c = few_none c.args.self.now c.milestone_job.new.self c.milestone_job.ensures.same.device 6

pub returns-in-Err-compose_job-clause-calls : goal.returns-in-Err-compose_job-clause-calls
returns-in-Err-compose_job-clause-calls g c = few_none c.args.self.now c.milestone_job.new.self c.milestone_job.ensures.same.device 6

pub returns-in-Err-put_milestone-clause-calls : goal.returns-in-Err-put_milestone-clause-calls
returns-in-Err-put_milestone-clause-calls g c =
    few_behind c.args.self.now c.milestone_job.new.self c.milestone_job.ensures.same.device 6 c.put_milestone.new.self c.put_milestone.ensures.calls

pub returns-clause-calls : goal.returns-clause-calls
returns-clause-calls g c =
    few_behind c.args.self.now c.milestone_job.new.self c.milestone_job.ensures.same.device 6 c.put_milestone.new.self c.put_milestone.ensures.calls
