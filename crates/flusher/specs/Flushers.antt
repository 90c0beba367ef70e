-- What a flusher holds, and what a write makes of it.
use Rattle.std.specs.Prelude.{◌≡◌, ◌⊎◌, ◌≤◌, ◌<◌, ◌+◌, ◌-◌, ◌^◌, ℕ, min, true, false, List, [], ◌∷◌, ◌++◌, length}
use Rattle.disk.specs.declared.device.Disk.{Ghosts}
use Rattle.revision.specs.Command.{Taken}
use Rattle.revision.specs.State.{State}
use Rattle.segments.specs.Numbers.{newest_number}
use Rattle.segments.specs.Ring.{known_numbers}
use Rattle.recovery.specs.declared.store.Store.{Store}
use Rattle.recovery.specs.Found.{commands_of}
use Rattle.recovery.specs.Open.{FitsSlot, IsOpen, IsCommittedNow, IsCommittedBehind, IsUnchanged, IsFreedNow, IsHalfFreed, has_room, ring_of}

-- A batch that is held has a command, its count has four bytes, and it fits a slot; and nothing else is still to be published.
pub record MayCommit (state : State) (batch : List Taken) (committed : List (List Taken)) : Type 0 where
  pub some : 1 ≤ length batch
  pub short : length batch < 2 ^ 32
  pub fits : FitsSlot state batch
  pub alone : committed ≡ []

-- one batch at most, which has a command
abbrev pub IsOneAtMost : List (List Taken) → Type 0
IsOneAtMost batches = (length batches ≤ 1) × (length batches ≤ length (commands_of batches))

-- A write published the one batch that was held, after those that were published before, and gave the receipt of it and the token that
-- ends with it. It has a command.
pub record IsWritten (told held after : List (List Taken)) (receipt : List Taken) (token : List (List Taken)) : Type 0 where
  pub batch : held ≡ receipt ∷ []
  pub published : after ≡ told ++ held
  pub token_is : token ≡ after
  pub some : 1 ≤ length receipt

-- how many bytes a batch may have
abbrev pub cap_of : State → ℕ
cap_of state = min (state.limits.width + 4) (2 ^ 32 - 1)

module _ {D : Type 0} {disk : Ghosts D} where
  -- An open store has opened its last segment: the newest one has the highest number there is.
  abbrev pub IsUsedUp : Store D disk → Type 0
  IsUsedUp store = IsOpen store → 2 ^ 64 - 1 ≤ newest_number (known_numbers (ring_of store))

  -- A batch is committed to a store: the cells and the slots are those of before, but for the batch, where it had room, and else those that
  -- freeing the oldest segment left.
  pub record IsCommittedTo (batch : List Taken) (old new : Store D disk) : Type 0 where
    pub with_room : has_room old batch ≡ true → (is_open : IsOpen old) → IsCommittedNow batch old is_open new
    pub behind : has_room old batch ≡ false → (is_open : IsOpen old) → IsCommittedBehind batch old is_open new

  -- the batch that was to be committed, where there was one, is committed; and where there was none the store is left unchanged
  abbrev pub IsHeldCommitted : List (List Taken) → Store D disk → Store D disk → Type 0
  IsHeldCommitted [] old new = new ≡ old
  IsHeldCommitted (batch ∷ others) old new = IsCommittedTo batch old new

  -- A batch was to be committed to a store, and isn't: where it had room the store is unchanged, and else it is freed for it, or partly freed.
  pub record IsLeftWithout (batch : List Taken) (old new : Store D disk) : Type 0 where
    pub with_room : has_room old batch ≡ true → IsUnchanged old new
    pub behind : has_room old batch ≡ false → (is_open : IsOpen old) → IsHalfFreed old is_open new ⊎ IsFreedNow old is_open new

  -- the batch that was to be committed, where there was one, isn't; and where there was none the store is left unchanged
  abbrev pub IsGivenUp : List (List Taken) → Store D disk → Store D disk → Type 0
  IsGivenUp [] old new = new ≡ old
  IsGivenUp (batch ∷ others) old new = IsLeftWithout batch old new
