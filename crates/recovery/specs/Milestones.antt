-- What one milestone of a document does to a store: what refuses it, what is left then, and what a job is that was handed out for it.
use Rattle.std.specs.Prelude.{◌≡◌, ◌≢◌, ℕ, false, Some, [], ◌∷◌, Result, IfErr, IsErrOf, slice_get}
use Rattle.disk.specs.declared.device.Disk.{Ghosts}
use Rattle.refusal.specs.Refusal.{IsOneOf}
use Rattle.refusal.specs.declared.Refusal.{Refusal}
use Rattle.refusal.specs.declared.Refusal.TheVariants.{NoDocument, Future, TooOld, NoMemory, Fault}
use Rattle.history.specs.Cell.{cells_at}
use Rattle.milestone.specs.Job.{Job}
use Rattle.recovery.specs.declared.store.Store.{Store}
use Rattle.recovery.specs.declared.run.StoreStep.TheVariants.{Milestone}
use Rattle.recovery.specs.Begun.{IsLeftByMemory}
use Rattle.recovery.specs.Cells.{highest_known}
use Rattle.recovery.specs.Jobs.{IsJobTo, IsMadeOf, highest, no_job_for, with_job, without_job}
use Rattle.recovery.specs.Open.{IsOpen, IsStillOver, IsUnchanged, device_of, ring_of, state_of, known_cells, known_marks, has_failed, kept_jobs}
use Rattle.recovery.specs.Run.{IsWhy}
use Rattle.recovery.specs.Unwritten.{MayKeepJob}

module _ {D : Type 0} {disk : Ghosts D} where
  -- A milestone of a document at a revision, or its job, is refused where something speaks against it, and then as that: by the cells that are
  -- known in memory, and by those of an open store. Beside it `NoMemory` and `Fault` come, which say nothing of the document.
  pub record IsRefusedWhereDue {A : Type 0} (document revision : ℕ) (result : Result A Refusal) (old : Store D disk) : Type 0 where
    pub only : IfErr result (λ e. IsOneOf e (NoDocument ∷ Future ∷ TooOld ∷ NoMemory ∷ Fault ∷ []))
    pub known : IfErr result (λ e. e ≢ NoMemory → e ≢ Fault
        → no_job_for (slice_get (state_of old).documents document) (highest_known (known_cells old) document) revision ≡ Some e)
    pub why : IfErr result (λ e. e ≢ NoMemory → e ≢ Fault → IsWhy (Milestone document revision) e old)
    pub due : has_failed old ≡ false → (why : Refusal)
        → no_job_for (slice_get (state_of old).documents document) (highest_known (known_cells old) document) revision ≡ Some why → IsErrOf result why
    pub due_open : has_failed old ≡ false → (is_open : IsOpen old) → (why : Refusal)
        → no_job_for (slice_get (state_of old).documents document) (highest (cells_at is_open.cells document)) revision ≡ Some why → IsErrOf result why

  -- The documents stay, the segments and what is known of them, and the kept jobs of other documents.
  pub record LeavesOthers (document : ℕ) (old new : Store D disk) : Type 0 where
    pub state : state_of new ≡ state_of old
    pub ring : ring_of new ≡ ring_of old
    pub marks : known_marks new ≡ known_marks old
    pub jobs : without_job document (kept_jobs new) ≡ without_job document (kept_jobs old)

  -- What a milestone leaves that was refused. A refusal for the document or its revision leaves all unchanged. `NoMemory` leaves all but the
  -- document's job, which is dropped: so another one may be due. `Fault` may leave a job of the document kept.
  pub record IsUnput (document revision : ℕ) (refusal : Refusal) (old new : Store D disk) : Type 0 where
    pub untouched : refusal ≢ NoMemory → refusal ≢ Fault → IsUnchanged old new
    pub unwritten : refusal ≢ Fault → device_of new ≡ device_of old
    pub memory : refusal ≡ NoMemory → IsLeftByMemory (Milestone document revision) old new
    pub fault : refusal ≡ Fault → MayKeepJob document revision old new

  -- A job was handed out. It is to the revision, is made of what the document holds, and is kept in place of what was kept of its document. A
  -- store that was open is open over the same cells and slots.
  pub record IsHandedOut (document revision : ℕ) (job : Job) (old new : Store D disk) : Type 0 where
    pub to : IsJobTo (state_of old).documents document revision job
    pub made : IsMadeOf (state_of old).documents document revision job
    pub kept : kept_jobs new ≡ with_job job (kept_jobs old)
    pub over : (is_open : IsOpen old) → IsStillOver is_open.cells is_open.table new
