-- Which jobs a run keeps, and what the step at which it stopped has begun.
use Rattle.std.specs.Prelude.{◌≡◌, false, ◌+◌, ◌≤◌, ℕ, List, [], ◌∷◌, length, take, get_or}
use Rattle.disk.specs.declared.device.Disk.{Ghosts}
use Rattle.disk.specs.Crash.{LeavesOnly}
use Rattle.refusal.specs.declared.Refusal.{Refusal}
use Rattle.refusal.specs.declared.Refusal.TheVariants.{NoMemory}
use Rattle.milestone.specs.Job.{Job}
use Rattle.recovery.specs.declared.store.Store.{Store}
use Rattle.recovery.specs.declared.run.StoreStep.{StoreStep}
use Rattle.recovery.specs.declared.run.StoreStep.TheVariants.{Commit, Milestone, Retire}
use Rattle.recovery.specs.Jobs.{without_job}
use Rattle.recovery.specs.Open.{IsOpen, IsUnchanged, IsWithOrWithout, device_of, state_of, known_marks, kept_jobs, has_failed}
use Rattle.recovery.specs.Run.{AreTaken, MayPut, batch_of}
use Rattle.recovery.specs.Unwritten.{IsUnwritten}

-- the jobs that are kept after a step: a milestone that is put drops the job of its document
abbrev pub jobs_behind : StoreStep → List Job → List Job
jobs_behind (Commit batch) jobs = jobs
jobs_behind (Milestone document revision) jobs = without_job document jobs
jobs_behind Retire jobs = jobs

-- and after steps in order
abbrev pub jobs_after : List StoreStep → List Job → List Job
jobs_after [] jobs = jobs
jobs_after (step ∷ steps) jobs = jobs_after steps (jobs_behind step jobs)

module _ {D : Type 0} {disk : Ghosts D} where
  -- What a step leaves for which memory ran out: a commit leaves all unchanged, and a milestone all but the job of its document, which is
  -- dropped. Nothing spoke against the milestone: what does is told before. A retirement takes no memory.
  abbrev pub IsLeftByMemory : StoreStep → Store D disk → Store D disk → Type 0
  IsLeftByMemory (Commit batch) old new = IsUnchanged old new
  IsLeftByMemory (Milestone document revision) old new = MayPut document revision old × IsUnwritten document old new
  IsLeftByMemory Retire old new = ⊥

  -- What a refused step leaves, whatever refused it: the state, the marks and the jobs of other documents stay, and a crash at any moment
  -- of its few calls of the device leaves the state before it, or the one with its batch.
  pub record IsLeftBy (step : StoreStep) (refusal : Refusal) (old new : Store D disk) : Type 0 where
    pub state : state_of new ≡ state_of old
    pub marks : known_marks new ≡ known_marks old
    pub jobs : jobs_behind step (kept_jobs new) ≡ jobs_behind step (kept_jobs old)
    pub calls : length (disk.past (device_of new)) ≤ length (disk.past (device_of old)) + 8
    pub any_moment : has_failed old ≡ false → IsOpen old
        → LeavesOnly disk (IsWithOrWithout (state_of old) (batch_of step)) (device_of old) (device_of new)
    pub memory : refusal ≡ NoMemory → IsLeftByMemory step old new

  -- A run stopped at a step, and began nothing after it: those before it were taken, and of the store that they led to no more is changed than
  -- this step changes where it is refused.
  pub record IsBegun (steps : List StoreStep) (at : ℕ) (refusal : Refusal) (old new : Store D disk) : Type 0 where
    pub last : Store D disk
    pub taken : AreTaken (take at steps) old last
    pub kept : kept_jobs last ≡ jobs_after (take at steps) (kept_jobs old)
    pub left : IsLeftBy (get_or steps at Retire) refusal last new
