-- What becomes of a job that comes back, and of a document that is looked at.
use Rattle.std.specs.Prelude.{◌≡◌, ◌≢◌, ◌⊎◌, ◌≤◌, ℕ, Option, None, List, [], ◌∷◌, length, take, drop, Result, Ok, Err, Contains, slice_get}
use Rattle.disk.specs.declared.device.Disk.{Ghosts}
use Rattle.milestone.specs.Job.{Job}
use Rattle.milestone.specs.declared.composing.ComposeError.{ComposeError}
use Rattle.recovery.specs.declared.store.Store.{Store}
use Rattle.recovery.specs.Cells.{highest_known}
use Rattle.recovery.specs.Due.{job_due_for}
use Rattle.recovery.specs.Jobs.{last_job, with_job}
use Rattle.recovery.specs.Open.{IsUnchanged, state_of, known_cells, kept_jobs}
use Rattle.recovery.specs.PutJobs.{ArePut}

-- the document whose job was done, or came back undone
abbrev pub document_of : Result Job ComposeError → ℕ
document_of (Ok composed) = composed.document
document_of (Err back) = back.job.document

module _ {D : Type 0} {disk : Ghosts D} where
  -- the revision to which a job of a document is due, if one is
  abbrev pub due_in : ℕ → ℕ → Store D disk → Option ℕ
  due_in every document store =
      job_due_for every (slice_get (state_of store).documents document) (highest_known (known_cells store) document) (last_job document (kept_jobs store))

  -- A document was looked at: it waits again, or no job of it was due, or one was handed out, and the store keeps a copy of it.
  abbrev pub IsLookedAt : ℕ → Store D disk → ℕ → Store D disk → List ℕ → Type 0
  IsLookedAt every old document new waiting =
      Contains waiting document
      ⊎ ((due_in every document old ≡ None) ⊎ ((job : Job) × (job.document ≡ document) × (kept_jobs new ≡ with_job job (kept_jobs old))))

  -- the first of these, if there is one
  abbrev pub IsFirstLookedAt : ℕ → Store D disk → List ℕ → Store D disk → List ℕ → Type 0
  IsFirstLookedAt every old [] new waiting = Unit {0}
  IsFirstLookedAt every old (first ∷ others) new waiting = IsLookedAt every old first new waiting

  -- Of what was to be put a prefix was put, and the others are still to be put; or there was no memory for the first, and all is unchanged.
  abbrev pub ArePutFirst : List Job → List Job → Store D disk → Store D disk → Type 0
  ArePutFirst unput rest old new =
      ((count : ℕ) × (count ≤ length unput) × (unput ≢ [] → 1 ≤ count) × (rest ≡ drop count unput) × ArePut (take count unput) old new)
      ⊎ ((rest ≡ unput) × IsUnchanged old new)
