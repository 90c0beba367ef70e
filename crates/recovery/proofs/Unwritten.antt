-- A milestone that was not put, since memory ran out.
use Rattle.std.proofs.Common.{◌≡◌, ℕ, ◌+◌, ◌≤◌, List, Some, length, sym, subst, arith, ◌∙◌}
use Rattle.std.specs.Prelude.{slice_get}
use Rattle.disk.specs.declared.device.Disk.{Ghosts}
use Rattle.revision.specs.Replay.{IsReplay}
use Rattle.revision.specs.State.{DocumentRecord}
use Rattle.milestone.specs.Job.{Job, units_of_job}
use Rattle.recovery.specs.declared.store.Store.{Store}
use Rattle.recovery.specs.Jobs.{IsMadeOf}
use Rattle.recovery.specs.Open.{IsUnchanged, device_of}
use Rattle.recovery.specs.Unwritten.{IsUnchangedButJobs}

module _ {D : Type 0} {disk : Ghosts D} where
  pub but_jobs : {old new : Store D disk} → IsUnchanged old new → IsUnchangedButJobs old new
  but_jobs same = record { device = same.device; shape = same.shape; ring = same.ring; cells = same.cells; marks = same.marks; state = same.state; failed = same.failed }

  -- one call after another
  pub but_jobs_on : {old mid new : Store D disk} → IsUnchangedButJobs old mid → IsUnchangedButJobs mid new → IsUnchangedButJobs old new
  but_jobs_on first second = record {
    device = second.device ∙ first.device;
    shape = second.shape ∙ first.shape;
    ring = second.ring ∙ first.ring;
    cells = second.cells ∙ first.cells;
    marks = second.marks ∙ first.marks;
    state = second.state ∙ first.state;
    failed = second.failed ∙ first.failed;
  }

-- what a job that is given is made of
pub made_of : (documents : List DocumentRecord) (document revision : ℕ) (found : DocumentRecord) → slice_get documents document ≡ Some found
    → (job : Job) → IsReplay found.past revision (units_of_job job) job.deltas → IsMadeOf documents document revision job
made_of documents document revision found there job replay = record { found = found; there = there; replay = replay }

module _ {D : Type 0} {disk : Ghosts D} (old mid : Store D disk) (device : device_of mid ≡ device_of old) (most : ℕ) where
  -- no call of the device was made, and then a few
  pub few_none : length (disk.past (device_of mid)) ≤ length (disk.past (device_of old)) + most
  few_none = subst (λ (d : D). length (disk.past d) ≤ length (disk.past (device_of old)) + most) (sym device) (omega arith)

  pub few_behind : (new : Store D disk) → length (disk.past (device_of new)) ≤ length (disk.past (device_of mid)) + most
      → length (disk.past (device_of new)) ≤ length (disk.past (device_of old)) + most
  few_behind new few = subst (λ (d : D). length (disk.past (device_of new)) ≤ length (disk.past d) + most) device few
