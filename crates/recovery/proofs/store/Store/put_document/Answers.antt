use Rattle.std.proofs.Common.{◌≡◌, ◌≢◌, ◌≤◌, ◌+◌, ◌∙◌, length, refl, sym, ap, subst, rules}
use Rattle.std.specs.Prelude.{Err}
use Rattle.refusal.specs.declared.Refusal.TheVariants.{NoMemory}
use Rattle.recovery.specs.Jobs.{without_job}
use Rattle.recovery.specs.Open.{device_of, kept_jobs}
use Rattle.recovery.proofs.Faults.{faults_but_jobs, goes_but_jobs}
use Rattle.recovery.proofs.Going.{goes_same}
use Rattle.recovery.proofs.OtherJobs.{others_without}
use Rattle.recovery.proofs.PutAtOnce.{refused_unfailed}
use Rattle.recovery.proofs.Refusals.{memory_no_fault}
use Rattle.recovery.proofs.Unwritten.{but_jobs_on}
use Rattle.recovery.proofs.store.Store.put_document.Goals as goal

-- where memory ran out, the job alone is dropped after the put
pub returns-else-ne-clause-faults : goal.returns-else-ne-clause-faults
returns-else-ne-clause-faults g c =
    let memory : c.in-Err.refusal ≡ NoMemory = search rules in
    let works = refused_unfailed {A = Unit {0}} c.args.self.now c.put_at_once.new.self c.in-Err.refusal c.in-Err.ensures.faults.failed_before (memory_no_fault memory) in
    faults_but_jobs (Err c.in-Err.refusal) c.args.self.now c.put_at_once.new.self c.drop_job.new.self works c.drop_job.ensures.same c.in-Err.ensures.faults

pub returns-else-ne-clause-left : goal.returns-else-ne-clause-left
returns-else-ne-clause-left g c =
    let memory : c.in-Err.refusal ≡ NoMemory = search rules in
    let before = c.in-Err.ensures.left.memory memory in
    record {
      untouched = λ other fault. absurd (other memory);
      unwritten = λ fault. c.drop_job.ensures.same.device ∙ c.in-Err.ensures.left.unwritten fault;
      memory = λ told. (
        before.0,
        record { same = but_jobs_on before.1 c.drop_job.ensures.same; jobs = c.drop_job.ensures.jobs ∙ c.put_at_once.ensures.stays.jobs },
      );
      fault = λ fault. absurd (memory_no_fault memory fault);
    }

pub returns-else-ne-clause-stays : goal.returns-else-ne-clause-stays
returns-else-ne-clause-stays g c =
    let stays = c.put_at_once.ensures.stays in
    let same = c.drop_job.ensures.same in
    record {
      state = same.state ∙ stays.state;
      ring = same.ring ∙ stays.ring;
      marks = same.marks ∙ stays.marks;
      jobs = ap (without_job c.args.document) c.drop_job.ensures.jobs
          ∙ others_without c.args.document c.args.document (kept_jobs c.put_at_once.new.self) refl
          ∙ stays.jobs;
    }

pub returns-else-ne-clause-goes : goal.returns-else-ne-clause-goes
returns-else-ne-clause-goes g c =
    goes_same c.put_at_once.ensures.stays.state c.put_at_once.ensures.goes
    (goes_but_jobs c.put_at_once.new.self c.drop_job.new.self c.drop_job.ensures.same c.drop_job.ensures.open)

pub returns-else-ne-clause-calls : goal.returns-else-ne-clause-calls
returns-else-ne-clause-calls g c =
    subst (λ d. length (g.D.Disk.past d) ≤ length (g.D.Disk.past (device_of c.args.self.now)) + 6) (sym c.drop_job.ensures.same.device) c.put_at_once.ensures.calls

-- any other refusal is given on
pub returns-then-ne-clause-left : goal.returns-then-ne-clause-left
returns-then-ne-clause-left g c =
    let other : c.in-Err.refusal ≢ NoMemory = search rules in
    record {
      untouched = c.in-Err.ensures.left.untouched;
      unwritten = c.in-Err.ensures.left.unwritten;
      memory = λ memory. absurd (other memory);
      fault = λ fault. c.in-Err.ensures.left.job;
    }
