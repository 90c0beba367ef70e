-- Runs of steps, and what a crash within one leaves.
use Rattle.std.specs.Prelude.{◌≡◌, ◌≢◌, ◌⊎◌, true, false, Some, None, slice_get, ◌≤◌, ◌<◌, ◌^◌, ℕ, List, [], ◌∷◌, length, take, map, get_or}
use Rattle.disk.specs.declared.device.Disk.{Ghosts}
use Rattle.disk.specs.Crash.{LeavesOnly}
use Rattle.refusal.specs.Refusal.{IsOneOf}
use Rattle.refusal.specs.declared.Refusal.{Refusal}
use Rattle.refusal.specs.declared.Refusal.TheVariants.{JournalFull, Stranger, NoDocument, Future, TooOld, StillNeeded, NoMemory, Fault}
use Rattle.revision.specs.Command.{Taken}
use Rattle.revision.specs.State.{State, fold, all_grow}
use Rattle.history.specs.Cell.{cells_at}
use Rattle.milestone.specs.Job.{Job}
use Rattle.segments.specs.Numbers.{open_count, IsOldest}
use Rattle.segments.specs.Ring.{known_numbers}
use Rattle.recovery.specs.declared.store.Store.{Store}
use Rattle.recovery.specs.declared.run.StoreStep.{StoreStep}
use Rattle.recovery.specs.declared.run.StoreStep.TheVariants.{Commit, Milestone, Retire}
use Rattle.recovery.specs.Cells.{highest_known}
use Rattle.recovery.specs.Found.{FoundAs}
use Rattle.recovery.specs.Jobs.{IsJobTo, no_job_for, highest}
use Rattle.recovery.specs.Marked.{MayRetire}
use Rattle.recovery.specs.Open.{FitsSlot, IsOpen, IsCommittedNow, IsPutNow, IsRetiredNow, IsSpared, IsUnchanged, device_of, ring_of, state_of, known_cells, has_failed, has_room}

-- the batch of a step, empty where it commits none
abbrev pub batch_of : StoreStep → List Taken
batch_of (Commit batch) = batch
batch_of (Milestone document revision) = []
batch_of Retire = []

-- the batch of the step at a place, from 0
abbrev pub batch_at : List StoreStep → ℕ → List Taken
batch_at steps at = get_or (map batch_of steps) at []

-- the state after steps in order
abbrev pub state_after : State → List StoreStep → State
state_after state [] = state
state_after state (step ∷ steps) = state_after (fold state (batch_of step)) steps

-- A content represents a state that agrees with the one after a prefix of the steps, which has no fewer
-- than so many.
pub record IsAfterSome (least : ℕ) (state : State) (steps : List StoreStep) (content : List ℕ) : Type 0 where
  pub count : ℕ
  pub enough : least ≤ count
  pub within : count ≤ length steps
  pub found : FoundAs content (state_after state (take count steps))

-- a batch has a command, its count has four bytes, and it fits a slot in which nothing stands yet
pub record CanCommit (state : State) (batch : List Taken) : Type 0 where
  pub some : 1 ≤ length batch
  pub short : length batch < 2 ^ 32
  pub fits : FitsSlot state batch

-- the batch of a step can be committed, if it has one
abbrev pub CanTake : State → StoreStep → Type 0
CanTake state (Commit batch) = CanCommit state batch
CanTake state (Milestone document revision) = Unit {0}
CanTake state Retire = Unit {0}

-- the refusals of a step: those of a commit, of a milestone and of a retirement
abbrev pub IsOfStep : Refusal → Type 0
IsOfStep e =
    ((e ≡ JournalFull) ⊎ (e ≡ Stranger)) ⊎ ((IsOneOf e (NoDocument ∷ Future ∷ TooOld ∷ [])) ⊎ (IsOneOf e (StillNeeded ∷ NoMemory ∷ Fault ∷ [])))

module _ {D : Type 0} {disk : Ghosts D} where
  -- Nothing speaks against a milestone of a document at a revision, by the cells that are known in memory: the document is there and has
  -- reached the revision, which is neither 0 nor below its floor nor below an open cell of it.
  abbrev pub MayPut : ℕ → ℕ → Store D disk → Type 0
  MayPut document revision store =
      no_job_for (slice_get (state_of store).documents document) (highest_known (known_cells store) document) revision ≡ None

  -- Nothing speaks against retiring the oldest segment, by what is known in memory: two slots or more are open, and no mark of that segment
  -- is above the lowest open cell of its document.
  pub record MayGiveUp (store : Store D disk) : Type 0 where
    pub two : 2 ≤ open_count (known_numbers (ring_of store))
    pub spared : (slot segment : ℕ) → IsOldest (known_numbers (ring_of store)) slot segment → (document : ℕ) → IsSpared segment document store

  -- A milestone of a document at a revision was put: the cell that comes of a job to that revision is open.
  pub record IsPutAt (document revision : ℕ) (old : Store D disk) (is_open : IsOpen old) (new : Store D disk) : Type 0 where
    pub job : Job
    pub to : IsJobTo (state_of old).documents document revision job
    pub put : IsPutNow is_open.cells is_open.table job new

  -- The oldest segment could be retired, and was.
  pub record IsGivenUp (old : Store D disk) (is_open : IsOpen old) (new : Store D disk) : Type 0 where
    pub may : MayRetire is_open.table is_open.cells
    pub retired : IsRetiredNow is_open.cells is_open.table new

  -- A step was taken, and the store is open after it: its batch was committed, or its milestone may be put and was, or the oldest segment retired.
  abbrev pub IsTaken : StoreStep → Store D disk → Store D disk → Type 0
  IsTaken (Commit batch) old new =
      (has_failed new ≡ false) × (all_grow (state_of old) batch ≡ true) × (state_of new ≡ fold (state_of old) batch)
      × ((is_open : IsOpen old) → IsCommittedNow batch old is_open new) × (has_room old batch ≡ true)
  IsTaken (Milestone document revision) old new =
      (has_failed new ≡ false) × (state_of new ≡ state_of old) × MayPut document revision old
      × ((is_open : IsOpen old) → IsPutAt document revision old is_open new)
  IsTaken Retire old new =
      (has_failed new ≡ false) × (state_of new ≡ state_of old) × ((is_open : IsOpen old) → IsGivenUp old is_open new)

  -- steps were taken, one after the other
  abbrev pub AreTaken : List StoreStep → Store D disk → Store D disk → Type 0
  AreTaken [] old new = new ≡ old
  AreTaken (step ∷ steps) old new = (mid : Store D disk) × IsTaken step old mid × AreTaken steps mid new

  -- Within a run so many of its first steps had been taken at a moment, by a store in the middle of it. A crash at that moment or at any
  -- later one leaves the state after no fewer of them.
  pub record IsKeptFrom (count : ℕ) (steps : List StoreStep) (old new : Store D disk) : Type 0 where
    pub mid : Store D disk
    pub taken : AreTaken (take count steps) old mid
    pub before : LeavesOnly disk (IsAfterSome 0 (state_of old) steps) (device_of old) (device_of mid)
    pub later : LeavesOnly disk (IsAfterSome count (state_of old) steps) (device_of mid) (device_of new)

  -- Why a store refuses a step, where neither its device failed nor memory ran out.
  abbrev pub IsWhy : StoreStep → Refusal → Store D disk → Type 0
  IsWhy (Commit batch) refusal store =
      ((refusal ≡ JournalFull) × (has_room store batch ≡ false)) ⊎ ((refusal ≡ Stranger) × (all_grow (state_of store) batch ≡ false))
  IsWhy (Milestone document revision) refusal store =
      (is_open : IsOpen store) → no_job_for (slice_get (state_of store).documents document) (highest (cells_at is_open.cells document)) revision ≡ Some refusal
  IsWhy Retire refusal store = (refusal ≡ StillNeeded) × ((is_open : IsOpen store) → ¬ MayRetire is_open.table is_open.cells)

  -- A run stopped at a step: those before it were taken, and the store that they led to refused it for this reason, and was left
  -- unchanged, where neither its device failed nor memory ran out.
  pub record IsStopped (steps : List StoreStep) (at : ℕ) (refusal : Refusal) (old new : Store D disk) : Type 0 where
    pub last : Store D disk
    pub taken : AreTaken (take at steps) old last
    pub why : refusal ≢ NoMemory → refusal ≢ Fault → IsWhy (get_or steps at Retire) refusal last
    pub left : refusal ≢ NoMemory → refusal ≢ Fault → IsUnchanged last new
