-- A store that is open, and what a crash within a commit leaves of it.
use Rattle.std.specs.Prelude.{◌≡◌, ◌≢◌, ◌⊎◌, ◌+◌, ◌≤◌, ℕ, Bool, Option, Some, List, [], length, slice_get}
use Rattle.disk.specs.declared.device.Disk.{Ghosts}
use Rattle.revision.specs.Command.{Taken}
use Rattle.journal.specs.BatchSpelling.{batch as spelled, batch_width}
use Rattle.revision.specs.State.{State, DocumentRecord, revision_of, fold}
use Rattle.history.specs.Cell.{Cell, Pair, cell_of, cells_at, freed, with_pair}
use Rattle.history.specs.Shown.{Order}
use Rattle.history.specs.Running.{Runs}
use Rattle.milestone.specs.Job.{Job, cell_of_job}
use Rattle.milestone.specs.Cells.{with_cell}
use Rattle.milestone.specs.declared.cells.Cells.{Cells}
use Rattle.segments.specs.Slot.{Segment}
use Rattle.segments.specs.Table.{IsAppended, IsRetired}
use Rattle.segments.specs.declared.ring.Ring.{Ring}
use Rattle.segments.specs.Numbers.{IsOldest}
use Rattle.segments.specs.Ring.{Fits, IsReady, known_numbers, at_of, size_of, fits_newest}
use Rattle.segments.specs.Room.{has_room_for}
use Rattle.recovery.specs.declared.store.Store.{Store}
use Rattle.recovery.specs.Shape.{slots_place}
use Rattle.recovery.specs.Cells.{AreCellsOf, FitEach, lowest_known}
use Rattle.recovery.specs.declared.marks.Mark.{Mark}
use Rattle.recovery.specs.Marks.{marks_of, greatest_marked}
use Rattle.recovery.specs.Marked.{AreMarked}
use Rattle.recovery.specs.Jobs.{jobs_of, jobs_for, CanAllBePut}
use Rattle.recovery.specs.Found.{limits_of, commands_of, HoldsParts, FoundAs}
use Rattle.recovery.specs.Moment.{At, Moment, moment_of}

-- a content that represents a state that agrees with the one before a batch, or with the one with it
abbrev pub IsWithOrWithout : State → List Taken → List ℕ → Type 0
IsWithOrWithout state batch content = FoundAs content state ⊎ FoundAs content (fold state batch)

-- A batch fits a slot in which nothing stands yet: with the slot's gate and number, the record's gate and length, and
-- the closed gate behind it, 15 bytes more than its own. An entry alone has 19 bytes less than a slot at most, and fits.
abbrev pub FitsSlot : State → List Taken → Type 0
FitsSlot state batch = batch_width batch ≤ state.limits.width + 4

-- a document at its newest revision
abbrev pub newest_cell : DocumentRecord → Cell
newest_cell found = cell_of found (revision_of found)

-- Both cells of a document are open, and hold it at its newest revision, as the state shows it.
pub record AreBothNewest (state : State) (document : ℕ) (pair : Pair) : Type 0 where
  pub found : DocumentRecord
  pub there : slice_get state.documents document ≡ Some found
  pub both : pair ≡ (Some (newest_cell found), Some (newest_cell found))

module _ {D : Type 0} {disk : Ghosts D} where
  -- the device under a store
  abbrev pub device_of : Store D disk → D
  device_of store = store.device

  -- the ring of its slots
  abbrev pub ring_of : Store D disk → Ring
  ring_of store = store.ring

  -- the state that a store holds
  abbrev pub state_of : Store D disk → State
  state_of store = store.state

  -- a store as it is now, as a receipt keeps it
  abbrev pub now_of : Store D disk → At D
  now_of store = record { state = store.state; device = store.device }

  -- and this moment, whatever the device's type is
  abbrev pub moment_now : Store D disk → Moment
  moment_now store = moment_of disk (now_of store)

  -- a call of the device has failed since the store was opened
  abbrev pub has_failed : Store D disk → Bool
  has_failed store = store.failed

  -- the cells of its documents, as they are known in memory
  abbrev pub known_cells : Store D disk → List Cells
  known_cells store = store.cells.items

  -- the jobs that it handed out and keeps
  abbrev pub kept_jobs : Store D disk → List Job
  kept_jobs store = jobs_of store.jobs

  -- what it knows of the entries of its segments
  abbrev pub known_marks : Store D disk → List Mark
  known_marks store = marks_of store.marks

  -- a batch fits behind what is there: into the newest segment, or, where a slot is free, into that
  abbrev pub has_room : Store D disk → List Taken → Bool
  has_room store batch = has_room_for store.ring (batch_width batch)

  -- a batch fits into the newest segment
  abbrev pub fits_newest_segment : Store D disk → List Taken → Bool
  fits_newest_segment store batch = fits_newest store.ring (batch_width batch)

  -- a call has left the store unchanged
  pub record IsUnchanged (old new : Store D disk) : Type 0 where
    pub device : new.device ≡ old.device
    pub shape : new.shape ≡ old.shape
    pub ring : new.ring ≡ old.ring
    pub cells : known_cells new ≡ known_cells old
    pub marks : known_marks new ≡ known_marks old
    pub jobs : kept_jobs new ≡ kept_jobs old
    pub state : new.state ≡ old.state
    pub failed : new.failed ≡ old.failed

  -- The device is synced, and a store runs on it with the state that is held: its content holds these parts, the ring is that of its
  -- slots, its cells and the marks of its segments are known, its cells and entries are of the history that the state
  -- shows, and so is what comes of the jobs that it keeps.
  pub record IsOpen (store : Store D disk) : Type 0 where
    pub synced : disk.unsynced store.device ≡ []
    pub cells : List Pair
    pub table : List (Option Segment)
    pub batches : List (List Taken)
    pub order : Order
    pub holds : HoldsParts (disk.seen store.device) store.shape cells table batches
    pub fits : Fits (disk.seen store.device) store.ring table
    pub ring_at : at_of store.ring ≡ slots_place store.shape
    pub ring_size : size_of store.ring ≡ store.shape.slot
    pub cells_are : AreCellsOf store.shape store.cells.items
    pub cells_fit : FitEach (disk.seen store.device) store.cells.items cells
    pub marked : AreMarked table (marks_of store.marks)
    pub limits : store.state.limits ≡ limits_of store.shape
    pub runs : Runs order cells (commands_of batches) store.state
    pub kept : CanAllBePut order cells (kept_jobs store)

module _ {D : Type 0} {disk : Ghosts D} where
  -- After a commit: the store is open over the same cells. The batch was appended to the newest segment where it fits there, and else,
  -- and only then, to one for which the next slot was opened. The kept jobs stay.
  pub record IsCommittedNow (commands : List Taken) (old : Store D disk) (is_open : IsOpen old) (new : Store D disk) : Type 0 where
    pub goes_on : IsOpen new
    pub same_cells : goes_on.cells ≡ is_open.cells
    pub ready : List (Option Segment)
    pub is_ready : IsReady (ring_of old) (length (spelled commands)) is_open.table ready
    pub appended : IsAppended ready (spelled commands) goes_on.table
    pub jobs : kept_jobs new ≡ kept_jobs old

  -- After a retirement: the store is open over the same cells, and the slot of the oldest segment is closed.
  pub record IsRetiredNow (cells : List Pair) (table : List (Option Segment)) (store : Store D disk) : Type 0 where
    pub goes_on : IsOpen store
    pub same_cells : goes_on.cells ≡ cells
    pub retired : IsRetired table goes_on.table

  -- a document needs no milestone before a segment is retired: none of its open cells is below its entries there
  abbrev pub IsSpared : ℕ → ℕ → Store D disk → Type 0
  IsSpared segment document store = greatest_marked segment document (known_marks store) ≤ lowest_known (known_cells store) document

  -- no entry of a document stands in a segment
  abbrev pub HasNone : ℕ → ℕ → Store D disk → Type 0
  HasNone segment document store = greatest_marked segment document (known_marks store) ≡ 0

  -- After room was made in the journal: the store is open, and the slot of the oldest segment is closed. The cells of each document that had no
  -- entry there are unchanged. Both cells of each other document hold it at its newest revision, and no job of it is kept.
  pub record IsFreedNow (old : Store D disk) (is_open : IsOpen old) (new : Store D disk) : Type 0 where
    pub goes_on : IsOpen new
    pub retired : IsRetired is_open.table goes_on.table
    pub spared : (document : ℕ) → HasNone retired.segment.number document old → cells_at goes_on.cells document ≡ cells_at is_open.cells document
    pub raised : (document : ℕ) → ¬ HasNone retired.segment.number document old → AreBothNewest (state_of old) document (cells_at goes_on.cells document)
    pub dropped : (document : ℕ) → ¬ HasNone retired.segment.number document old → jobs_for document (kept_jobs new) ≡ []

  -- the cells of a document and the kept jobs of it are unchanged
  abbrev pub IsLeft : (old : Store D disk) → IsOpen old → (new : Store D disk) → IsOpen new → ℕ → Type 0
  IsLeft old is_open new goes_on document =
      (cells_at goes_on.cells document ≡ cells_at is_open.cells document) × (jobs_for document (kept_jobs new) ≡ jobs_for document (kept_jobs old))

  -- both cells of a document hold it at its newest revision, and no job of it is kept
  abbrev pub IsRaised : Store D disk → (new : Store D disk) → IsOpen new → ℕ → Type 0
  IsRaised old new goes_on document =
      AreBothNewest (state_of old) document (cells_at goes_on.cells document) × (jobs_for document (kept_jobs new) ≡ [])

  -- Room was being made when it was given up, before the milestones of one document: the store is open over the same slots. Each document that has
  -- no entry in the oldest segment is left unchanged, with its kept jobs. So is each other one, or it has both its milestones and no kept job;
  -- the one document has its cells unchanged, and no kept job.
  pub record IsHalfFreed (old : Store D disk) (is_open : IsOpen old) (new : Store D disk) : Type 0 where
    pub goes_on : IsOpen new
    pub same_table : goes_on.table ≡ is_open.table
    pub slot : ℕ
    pub segment : ℕ
    pub oldest : IsOldest (known_numbers (ring_of old)) slot segment
    pub spared : (document : ℕ) → HasNone segment document old → IsLeft old is_open new goes_on document
    pub under_way : ℕ
    pub needs : ¬ HasNone segment under_way old
    pub own : cells_at goes_on.cells under_way ≡ cells_at is_open.cells under_way
    pub dropped : jobs_for under_way (kept_jobs new) ≡ []
    pub others : (document : ℕ) → document ≢ under_way → ¬ HasNone segment document old
        → IsLeft old is_open new goes_on document ⊎ IsRaised old new goes_on document

  -- After a commit for which room was made: the oldest segment was freed first, and the batch committed after that.
  pub record IsCommittedBehind (commands : List Taken) (old : Store D disk) (is_open : IsOpen old) (new : Store D disk) : Type 0 where
    pub mid : Store D disk
    pub freed : IsFreedNow old is_open mid
    pub committed : IsCommittedNow commands mid freed.goes_on new

  -- The kept jobs stay of each document that has no entry in a segment.
  abbrev pub KeepsJobs : ℕ → Store D disk → Store D disk → Type 0
  KeepsJobs segment old new = (document : ℕ) → HasNone segment document old → jobs_for document (kept_jobs new) ≡ jobs_for document (kept_jobs old)

  -- After a milestone was put: the store is open over the same slots, and the job's cell is open in its document's pair,
  -- in place of the older one where both were open. The other documents' cells are unchanged.
  pub record IsPutNow (cells : List Pair) (table : List (Option Segment)) (job : Job) (store : Store D disk) : Type 0 where
    pub goes_on : IsOpen store
    pub same_table : goes_on.table ≡ table
    pub put : goes_on.cells ≡ with_pair job.document (with_cell (cell_of_job job) (freed (cells_at cells job.document))) cells

  -- After a job was handed out: the store is open over the same cells and slots.
  pub record IsStillOver (cells : List Pair) (table : List (Option Segment)) (store : Store D disk) : Type 0 where
    pub goes_on : IsOpen store
    pub same_cells : goes_on.cells ≡ cells
    pub same_table : goes_on.table ≡ table
