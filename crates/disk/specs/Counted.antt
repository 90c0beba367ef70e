-- How many calls of a device were made, as far as it tells, and how many of them were syncs. A call that changes anything is told by the
-- state that it leaves, and one that fails by the count of failed calls, while that is below its top. Not told is a good sync of a device
-- that is synced, since it leaves all unchanged.
use Rattle.std.specs.Prelude.{ℕ, ◌+◌, ◌≤◌, List, [], ◌∷◌, length}
use Rattle.disk.specs.Device.{State, History}
use Rattle.disk.specs.Crash.{history_of}
use Rattle.disk.specs.declared.device.Disk.{Ghosts}

-- 1 where no range is unsynced, as a sync leaves it, and 0 where one is, as a write leaves it
abbrev pub is_synced : List (ℕ × ℕ) → ℕ
is_synced [] = 1
is_synced (range ∷ ranges) = 0

-- how many of these states are synced
abbrev pub synced_states : List State → ℕ
synced_states [] = 0
synced_states (state ∷ states) = is_synced state.unsynced + synced_states states

-- and of those of a history
abbrev pub synced_moments : History → ℕ
synced_moments h = is_synced h.now.unsynced + synced_states h.past

module _ {D : Type 0} (disk : Ghosts D) where
  -- The calls so far that wrote or synced or failed. A call that failed and changed something counts twice.
  abbrev pub calls_of : D → ℕ
  calls_of d = length (disk.past d) + disk.faults d

  -- The syncs so far, and the calls that failed, whatever they were.
  abbrev pub syncs_of : D → ℕ
  syncs_of d = synced_moments (history_of disk d) + disk.faults d

  -- What calls cost that come to an end with the first one that fails: so many at most that a device tells of, and so many syncs, good or not.
  pub record Costs (most_calls most_syncs : ℕ) (old new : D) : Type 0 where
    pub calls : length (disk.past new) ≤ length (disk.past old) + most_calls
    pub syncs : synced_moments (history_of disk new) ≤ synced_moments (history_of disk old) + most_syncs
    pub faults : disk.faults new ≤ disk.faults old + 1

  -- What calls cost where one that fails is counted like any other: so many at most, whether the device tells of them or they failed, and so
  -- many syncs among them.
  pub record CostsInAll (most_calls most_syncs : ℕ) (old new : D) : Type 0 where
    pub calls : length (disk.past new) ≤ length (disk.past old) + most_calls
    pub every_call : calls_of new ≤ calls_of old + most_calls
    pub syncs : syncs_of new ≤ syncs_of old + most_syncs
