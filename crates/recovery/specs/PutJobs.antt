-- What is put where the milestones of many composed jobs are put as one step.
use Rattle.std.specs.Prelude.{◌≡◌, ℕ, ◌+◌, ◌*◌, ◌==◌, ◌||◌, not, Bool, true, false, Some, List, [], ◌∷◌, length, filter, slice_get, All, Contains}
use Rattle.disk.specs.declared.device.Disk.{Ghosts}
use Rattle.disk.specs.Counted.{Costs}
use Rattle.history.specs.Cell.{Pair, cells_at, freed, with_pair}
use Rattle.milestone.specs.declared.cells.Cells.{Cells}
use Rattle.milestone.specs.Cells.{HasClosed, revisions_of, with_cell}
use Rattle.milestone.specs.Job.{Job, cell_of_job}
use Rattle.recovery.specs.declared.store.Store.{Store}
use Rattle.recovery.specs.Open.{IsOpen, device_of, known_cells, kept_jobs}

-- one of these jobs is of this document
abbrev pub has_job : ℕ → List Job → Bool
has_job document [] = false
has_job document (job ∷ jobs) = (job.document == document) || has_job document jobs

-- those of the kept jobs whose document is that of none of these
abbrev pub without_jobs : List Job → List Job → List Job
without_jobs put kept = filter (λ job. not (has_job job.document put)) kept

-- no document is that of two of these jobs
abbrev pub AreOfOneEach : List Job → Type 0
AreOfOneEach [] = Unit {0}
AreOfOneEach (job ∷ jobs) = (has_job job.document jobs ≡ false) × AreOfOneEach jobs

-- Of composed jobs those are put that are still kept: each of them, and of each document one.
pub record ArePutOf (composed kept put : List Job) : Type 0 where
  pub among : All (λ job. Contains composed job × Contains kept job) put
  pub each : (job : Job) → Contains composed job → Contains kept job → has_job job.document put ≡ true
  pub once : AreOfOneEach put

-- the pairs of cells with what comes of a job, in place of the older one of two open cells of its document
abbrev pub with_put : Job → List Pair → List Pair
with_put job cells = with_pair job.document (with_cell (cell_of_job job) (freed (cells_at cells job.document))) cells

-- and with what comes of each of these jobs
abbrev pub with_all_put : List Job → List Pair → List Pair
with_all_put [] cells = cells
with_all_put (job ∷ jobs) cells = with_all_put jobs (with_put job cells)

module _ {D : Type 0} {disk : Ghosts D} where
  -- After the milestones of jobs were put: the store is open over the same slots, with the cells that `put_milestone` for one after another leaves.
  pub record ArePutNow (put : List Job) (old : Store D disk) (is_open : IsOpen old) (new : Store D disk) : Type 0 where
    pub goes_on : IsOpen new
    pub same_table : goes_on.table ≡ is_open.table
    pub cells : goes_on.cells ≡ with_all_put put is_open.cells

  -- Composed jobs were put: those of them that were kept, which are kept no more.
  pub record ArePut (composed : List Job) (old new : Store D disk) : Type 0 where
    pub put : List Job
    pub are : ArePutOf composed (kept_jobs old) put
    pub dropped : kept_jobs new ≡ without_jobs put (kept_jobs old)
    pub now : (is_open : IsOpen old) → ArePutNow put old is_open new

  -- none of these jobs is kept
  abbrev pub AreNotKept : List Job → Store D disk → Type 0
  AreNotKept jobs store = (job : Job) → Contains jobs job → ¬ Contains (kept_jobs store) job

  -- the document of each of these jobs has a cell that is known to be closed
  abbrev pub HaveRoom : List Job → Store D disk → Type 0
  HaveRoom jobs store = All (λ job. (one : Cells) → slice_get (known_cells store) job.document ≡ Some one → HasClosed (revisions_of one)) jobs

  -- Putting so many milestones as one step takes at most three writes for each and three syncs; where no cell has to be closed first, two and two.
  pub record CostsTogether (composed : List Job) (old new : Store D disk) : Type 0 where
    pub all : Costs disk (3 * length composed + 3) 3 (device_of old) (device_of new)
    pub fewer : HaveRoom composed old → Costs disk (2 * length composed + 2) 2 (device_of old) (device_of new)
