-- What a commit for which room may be made in a full journal comes to, and what making room leaves where it is refused.
use Rattle.std.specs.Prelude.{◌≡◌, ◌⊎◌, ◌+◌, ◌*◌, ◌≤◌, ◌<◌, ◌-◌, ◌/◌, ◌^◌, ℕ, zero, suc, nat_lt, if◌then◌else◌, true, false, Option, Some, None, List, length, slice_get, [], ◌∷◌, Result, IsErrOf}
use Rattle.disk.specs.declared.device.Disk.{Ghosts}
use Rattle.disk.specs.Counted.{syncs_of}
use Rattle.disk.specs.Device.{SameOutside}
use Rattle.journal.specs.Area.{frame}
use Rattle.milestone.specs.CellSpelling.{cell_body}
use Rattle.refusal.specs.Refusal.{IsOneOf}
use Rattle.refusal.specs.declared.Refusal.{Refusal}
use Rattle.refusal.specs.declared.Refusal.TheVariants.{JournalFull, StillNeeded, Stranger, NoMemory, Fault}
use Rattle.revision.specs.Command.{Taken}
use Rattle.revision.specs.State.{State, DocumentRecord, fold, all_grow, first_grows}
use Rattle.segments.specs.Numbers.{IsOldest, newest_number, open_count}
use Rattle.segments.specs.Ring.{IsSameButOldest, known_numbers}
use Rattle.recovery.specs.declared.store.Store.{Store}
use Rattle.recovery.specs.Found.{FoundAs}
use Rattle.recovery.specs.Goes.{Goes}
use Rattle.recovery.specs.Marks.{within_segment, without_segment, greatest_marked}
use Rattle.recovery.specs.Open.{IsOpen, newest_cell, IsUnchanged, IsCommittedNow, IsCommittedBehind, IsFreedNow, IsHalfFreed, KeepsJobs, device_of, ring_of, state_of, known_cells, known_marks, kept_jobs, has_failed, has_room, fits_newest_segment}

-- how many bytes a cell has behind its gate that holds a document at its newest revision, and 0 where there is no document
abbrev pub bytes_in : ℕ → Option DocumentRecord → ℕ
bytes_in document None = 0
bytes_in document (Some found) = length (frame (cell_body document (newest_cell found)))

abbrev pub bytes_at : State → ℕ → ℕ
bytes_at state document = bytes_in document (slice_get state.documents document)

-- the bytes of the documents of numbers below a bound that have a mark
abbrev pub bytes_below : State → (ℕ → ℕ) → ℕ → ℕ
bytes_below state marked zero = 0
bytes_below state marked (suc document) = bytes_below state marked document + (if nat_lt 0 (marked document) then bytes_at state document else 0)

-- from so many bytes on a group of milestones that are put together is full
abbrev pub most_bytes : ℕ
most_bytes = 4194304

module _ {D : Type 0} {disk : Ghosts D} where
  -- the bytes of all documents that have an entry in a segment, at their newest revisions
  abbrev pub bytes_for : ℕ → Store D disk → ℕ
  bytes_for segment store = bytes_below (state_of store) (λ document. greatest_marked segment document (known_marks store)) (length (known_cells store))

  -- fewer than two slots are open
  abbrev pub HasFew : Store D disk → Type 0
  HasFew store = open_count (known_numbers (ring_of store)) < 2

  -- the number of the last segment that there can be is in use
  abbrev pub IsSpent : Store D disk → Type 0
  IsSpent store = 2 ^ 64 - 1 ≤ newest_number (known_numbers (ring_of store))

  -- Making room leaves the kept jobs of each document that has no entry in the oldest segment, and keeps no more jobs.
  pub record KeepsOthers (old new : Store D disk) : Type 0 where
    pub jobs : IsOpen old → (slot segment : ℕ) → IsOldest (known_numbers (ring_of old)) slot segment → KeepsJobs segment old new
    pub no_more : length (kept_jobs new) ≤ length (kept_jobs old)

  -- Making room takes twelve calls of the device at most for each mark of the oldest segment, and so many more.
  pub record CostsAtMost (more : ℕ) (old new : Store D disk) : Type 0 where
    pub by_segment : (slot segment : ℕ) → IsOldest (known_numbers (ring_of old)) slot segment
        → length (disk.past (device_of new)) ≤ length (disk.past (device_of old)) + (12 * length (within_segment segment (known_marks old)) + more)
    pub by_marks : length (disk.past (device_of new)) ≤ length (disk.past (device_of old)) + (12 * length (known_marks old) + more)

  -- Making room takes six syncs for each four megabytes of what the documents hold that have an entry in the oldest segment, and for what is left of
  -- these bytes, and so many more. A call that fails is counted as a sync.
  pub record SyncsAtMost (more : ℕ) (old new : Store D disk) : Type 0 where
    pub by_bytes : (slot segment : ℕ) → IsOldest (known_numbers (ring_of old)) slot segment
        → syncs_of disk (device_of new) ≤ syncs_of disk (device_of old) + (6 * (1 + bytes_for segment old / most_bytes) + more)

  -- So many calls at most beyond those for making room, and so many syncs.
  pub record CostsFreeing (most_calls most_syncs : ℕ) (old new : Store D disk) : Type 0 where
    pub calls : CostsAtMost most_calls old new
    pub syncs : SyncsAtMost most_syncs old new

  -- Making room changes cells alone, and behind that nothing but the gate of the oldest segment's slot, whatever the device holds.
  pub record ChangesOnly (old new : Store D disk) : Type 0 where
    pub mid : List ℕ
    pub cells : SameOutside 64 (2 * old.shape.docs * old.shape.cell) (disk.seen (device_of old)) mid
    pub gate : IsSameButOldest (ring_of old) mid (disk.seen (device_of new))

  -- Room was made: the oldest segment is closed, and its marks are gone.
  pub record IsFreed (old new : Store D disk) : Type 0 where
    pub now : (is_open : IsOpen old) → IsFreedNow old is_open new
    pub marks : (slot segment : ℕ) → IsOldest (known_numbers (ring_of old)) slot segment → known_marks new ≡ without_segment segment (known_marks old)

  -- Room was not made, and why: too few slots are open, and the store is left unchanged; memory ran out, and some milestones may be put; or the
  -- device failed. The segments stay.
  pub record IsUnfreed (refusal : Refusal) (old new : Store D disk) : Type 0 where
    pub only : IsOneOf refusal (StillNeeded ∷ NoMemory ∷ Fault ∷ [])
    pub ring : ring_of new ≡ ring_of old
    pub marks : known_marks new ≡ known_marks old
    pub needed : refusal ≡ StillNeeded → IsOpen old → HasFew old × IsUnchanged old new
    pub half : refusal ≡ NoMemory → (is_open : IsOpen old) → IsHalfFreed old is_open new

  -- A batch that has room is committed or refused without more: the jobs and the cells stay, and the calls of the device are few.
  pub record IsPlain (batch : List Taken) (old new : Store D disk) : Type 0 where
    pub jobs : kept_jobs new ≡ kept_jobs old
    pub cells : known_cells new ≡ known_cells old
    pub calls : length (disk.past (device_of new)) ≤ length (disk.past (device_of old)) + 8
    pub calls_where_it_fits : fits_newest_segment old batch ≡ true → length (disk.past (device_of new)) ≤ length (disk.past (device_of old)) + 4

  -- A batch is committed: the cells and the slots are those of before, but for the batch, where it had room, and else those that making room
  -- left. One mark more is known at most for each command.
  pub record IsCommittedFreeing (batch : List Taken) (old new : Store D disk) : Type 0 where
    pub grow : all_grow (state_of old) batch ≡ true
    pub state : state_of new ≡ fold (state_of old) batch
    pub now : has_room old batch ≡ true → (is_open : IsOpen old) → IsCommittedNow batch old is_open new
    pub behind : has_room old batch ≡ false → (is_open : IsOpen old) → IsCommittedBehind batch old is_open new
    pub marks : length (known_marks new) ≤ length (known_marks old) + length batch

  -- A batch is not committed, and why. The documents stay, and where the batch had room, all of the store. Where it had none, it is refused
  -- as `JournalFull` after a segment was freed, and as `StillNeeded` where none could be, and then the numbers of segments are used up; as
  -- `Stranger` after a segment was freed; and where memory ran out, one is freed or partly freed, and nothing of the batch is written.
  pub record IsUncommitted (refusal : Refusal) (batch : List Taken) (old new : Store D disk) : Type 0 where
    pub only : (IsOneOf refusal (JournalFull ∷ StillNeeded ∷ Stranger ∷ [])) ⊎ ((refusal ≡ NoMemory) ⊎ (refusal ≡ Fault))
    pub state : state_of new ≡ state_of old
    pub marks : length (known_marks new) ≤ length (known_marks old)
    pub same_marks : has_room old batch ≡ true → known_marks new ≡ known_marks old
    pub full : refusal ≡ JournalFull → (has_room old batch ≡ false) × (has_room new batch ≡ false) × ((is_open : IsOpen old) → IsFreedNow old is_open new)
    pub needed : refusal ≡ StillNeeded → (has_room old batch ≡ false) × (ring_of new ≡ ring_of old) × (known_marks new ≡ known_marks old)
        × (IsOpen old → HasFew old × IsUnchanged old new)
    pub spent : (refusal ≡ JournalFull) ⊎ (refusal ≡ StillNeeded) → IsOpen old → IsSpent old
    pub stranger : refusal ≡ Stranger → all_grow (state_of old) batch ≡ false
    pub memory : refusal ≡ NoMemory → (has_room old batch ≡ true → first_grows (state_of old) batch ≡ true) × Goes (λ content. FoundAs content (state_of old)) old new
    pub unchanged : (refusal ≡ Stranger) ⊎ (refusal ≡ NoMemory) → has_room old batch ≡ true → IsUnchanged old new
    pub behind : (refusal ≡ Stranger) ⊎ (refusal ≡ NoMemory) → has_room old batch ≡ false → (is_open : IsOpen old)
        → (IsFreedNow old is_open new) ⊎ ((refusal ≡ NoMemory) × IsHalfFreed old is_open new)

  -- A store that works has to refuse a batch: no segment can be freed for it, or it has room and doesn't continue the state.
  pub record MustBeRefusedFreeing {A : Type 0} (result : Result A Refusal) (batch : List Taken) (old : Store D disk) : Type 0 where
    pub few : has_failed old ≡ false → has_room old batch ≡ false → HasFew old → IsErrOf result StillNeeded
    pub no_growth : has_failed old ≡ false → has_room old batch ≡ true → all_grow (state_of old) batch ≡ false
        → (IsErrOf result Stranger) ⊎ (IsErrOf result NoMemory)
