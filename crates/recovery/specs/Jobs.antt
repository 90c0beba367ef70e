-- The jobs of milestones that a store has handed out.
use Rattle.std.specs.Prelude.{◌≡◌, ◌⊎◌, ◌≤◌, ◌<◌, ℕ, ◌==◌, ◌||◌, not, nat_lt, if◌then◌else◌, Option, Some, None, List, [], ◌∷◌, ◌++◌, filter, slice_get, All}
use Rattle.refusal.specs.declared.Refusal.{Refusal}
use Rattle.refusal.specs.declared.Refusal.TheVariants.{NoDocument, Future, TooOld}
use Rattle.revision.specs.Command.{Taken}
use Rattle.revision.specs.Replay.{IsReplay}
use Rattle.revision.specs.State.{Limits, DocumentRecord, State, revision_of}
use Rattle.history.specs.Entries.{of_document}
use Rattle.history.specs.Cell.{Pair, cells_at, cell_of, CellKeeps}
use Rattle.history.specs.Shown.{Order}
use Rattle.history.specs.Running.{IsCellAt}
use Rattle.milestone.specs.Revisions.{revisions_in, highest_of}
use Rattle.milestone.specs.Job.{Job, units_of_job, cell_of_job}
use Rattle.recovery.specs.declared.jobs.Jobs.{Jobs}

-- the jobs that are kept
abbrev pub jobs_of : Jobs → List Job
jobs_of jobs = jobs.list.items

-- those of other documents than this one
abbrev pub without_job : ℕ → List Job → List Job
without_job document jobs = filter (λ job. not (job.document == document)) jobs

-- those of this document alone
abbrev pub jobs_for : ℕ → List Job → List Job
jobs_for document jobs = filter (λ job. job.document == document) jobs

-- the revision of the job that is kept of a document, 0 where none is
abbrev pub last_job : ℕ → List Job → ℕ
last_job document [] = 0
last_job document (job ∷ jobs) = if job.document == document then job.revision else last_job document jobs

-- with one more, in place of what its document had
abbrev pub with_job : Job → List Job → List Job
with_job job jobs = without_job job.document jobs ++ job ∷ []

-- the highest revision of a document's open cells, 0 where none is open
abbrev pub highest : Pair → ℕ
highest pair = highest_of (revisions_in pair)

-- Why a document is given no job to a revision, if it isn't: it has to be there, and to have reached the revision. Before the first
-- revision there is nothing, what lies below the floor is gone, and what lies below the highest open cell is of no use.
abbrev pub no_job_of : DocumentRecord → ℕ → ℕ → Option Refusal
no_job_of found highest revision =
    if nat_lt (revision_of found) revision then Some Future
    else if (revision == 0) || (nat_lt revision found.past.floor || nat_lt revision highest) then Some TooOld
    else None

abbrev pub no_job_for : Option DocumentRecord → ℕ → ℕ → Option Refusal
no_job_for None highest revision = Some NoDocument
no_job_for (Some found) highest revision = no_job_of found highest revision

-- What comes of a kept job can be put: it is the document of this history at the job's revision, which isn't below an open
-- cell of the document.
pub record CanBePut (order : Order) (cells : List Pair) (job : Job) : Type 0 where
  pub is_cell : IsCellAt order job.document (cell_of_job job)
  pub not_below : highest (cells_at cells job.document) ≤ job.revision

abbrev pub CanAllBePut : Order → List Pair → List Job → Type 0
CanAllBePut order cells jobs = All (CanBePut order cells) jobs

-- what comes of a job keeps the limits, and there are cells for its document
pub record KeepsLimits (limits : Limits) (job : Job) : Type 0 where
  pub inside : job.document < limits.docs
  pub keeps : CellKeeps limits (cell_of_job job)

abbrev pub AllKeep : Limits → List Job → Type 0
AllKeep limits jobs = All (KeepsLimits limits) jobs

-- A job to a revision that the document of this number holds: what comes of it is the document with its sources after the edits up to
-- that revision.
pub record IsJobTo (documents : List DocumentRecord) (document revision : ℕ) (job : Job) : Type 0 where
  pub number : job.document ≡ document
  pub found : DocumentRecord
  pub there : slice_get documents document ≡ Some found
  pub first : 1 ≤ revision
  pub held : found.past.floor ≤ revision
  pub reached : revision ≤ revision_of found
  pub is : cell_of_job job ≡ cell_of found revision

-- A job is made of what the document of this number holds and of nothing else: what stands at a revision that is held, and behind that each delta
-- up to the job's own.
pub record IsMadeOf (documents : List DocumentRecord) (document revision : ℕ) (job : Job) : Type 0 where
  pub found : DocumentRecord
  pub there : slice_get documents document ≡ Some found
  pub replay : IsReplay found.past revision (units_of_job job) job.deltas
