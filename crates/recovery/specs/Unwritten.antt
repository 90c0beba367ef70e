-- What a milestone leaves of a store that did not put it.
use Rattle.std.specs.Prelude.{◌≡◌, ◌⊎◌, ℕ}
use Rattle.disk.specs.declared.device.Disk.{Ghosts}
use Rattle.milestone.specs.Job.{Job}
use Rattle.recovery.specs.declared.store.Store.{Store}
use Rattle.recovery.specs.Jobs.{IsJobTo, IsMadeOf, with_job, without_job}
use Rattle.recovery.specs.Open.{known_cells, known_marks, kept_jobs, state_of}

module _ {D : Type 0} {disk : Ghosts D} where
  -- a call has left all of the store unchanged but for the jobs that it keeps
  pub record IsUnchangedButJobs (old new : Store D disk) : Type 0 where
    pub device : new.device ≡ old.device
    pub shape : new.shape ≡ old.shape
    pub ring : new.ring ≡ old.ring
    pub cells : known_cells new ≡ known_cells old
    pub marks : known_marks new ≡ known_marks old
    pub state : new.state ≡ old.state
    pub failed : new.failed ≡ old.failed

  -- the kept jobs are those of before, or those with a job to this revision of a document, in place of what was kept of it
  abbrev pub MayKeepJob : ℕ → ℕ → Store D disk → Store D disk → Type 0
  MayKeepJob document revision old new =
      (kept_jobs new ≡ kept_jobs old)
      ⊎ ((job : Job) × (IsJobTo (state_of old).documents document revision job × IsMadeOf (state_of old).documents document revision job)
      × (kept_jobs new ≡ with_job job (kept_jobs old)))

  -- nothing of a milestone of a document was put, and no job of the document is kept
  pub record IsUnwritten (document : ℕ) (old new : Store D disk) : Type 0 where
    pub same : IsUnchangedButJobs old new
    pub jobs : kept_jobs new ≡ without_job document (kept_jobs old)
