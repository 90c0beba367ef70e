-- What a commit may be given, and what it answers, leaves and costs.
use Rattle.std.specs.Prelude.{◌≡◌, ◌≢◌, ◌⊎◌, ◌+◌, ◌≤◌, ◌<◌, ◌^◌, ℕ, true, false, List, [], ◌∷◌, Result, length, IsErrOf}
use Rattle.delta.specs.Element.{Element}
use Rattle.disk.specs.declared.device.Disk.{Ghosts}
use Rattle.refusal.specs.Refusal.{IsOneOf}
use Rattle.refusal.specs.declared.Refusal.{Refusal}
use Rattle.refusal.specs.declared.Refusal.TheVariants.{JournalFull, Stranger, NoMemory, Fault}
use Rattle.revision.specs.Command.{Taken}
use Rattle.revision.specs.Made.{AreMade}
use Rattle.revision.specs.State.{State, fold, all_grow, first_grows}
use Rattle.recovery.specs.declared.store.Store.{Store}
use Rattle.recovery.specs.Moment.{Receipt}
use Rattle.recovery.specs.Open.{FitsSlot, IsOpen, IsUnchanged, IsCommittedNow, device_of, state_of, now_of, known_cells, known_marks, kept_jobs, has_failed, has_room}

-- A batch may be given to a commit: it has a command, its count has four bytes, and it fits a slot in which nothing stands yet. The documents
-- that are given with it are those that the first of its commands leave.
pub record MayBeCommitted (state : State) (batch : List Taken) (documents : List (List Element)) : Type 0 where
  pub some : 1 ≤ length batch
  pub short : length batch < 2 ^ 32
  pub fits : FitsSlot state batch
  pub made : AreMade state batch documents

module _ {D : Type 0} {disk : Ghosts D} where
  -- A receipt names just this batch, and the store as it is now, over a device that is synced.
  pub record IsReceiptOf (receipt : Receipt D) (batch : List Taken) (store : Store D disk) : Type 0 where
    pub names : receipt.batch ≡ batch
    pub at : receipt.at ≡ now_of store
    pub synced : disk.unsynced (device_of store) ≡ []

  -- A batch is committed, and this is its receipt: it had room, and continued the state. The cells and the kept jobs stay, and one mark more is
  -- known at most for each command.
  pub record IsCommitted (receipt : Receipt D) (batch : List Taken) (old new : Store D disk) : Type 0 where
    pub handed_out : IsReceiptOf receipt batch new
    pub room : has_room old batch ≡ true
    pub grow : all_grow (state_of old) batch ≡ true
    pub state : state_of new ≡ fold (state_of old) batch
    pub now : (is_open : IsOpen old) → IsCommittedNow batch old is_open new
    pub cells : known_cells new ≡ known_cells old
    pub jobs : kept_jobs new ≡ kept_jobs old
    pub marks : length (known_marks new) ≤ length (known_marks old) + length batch

  -- A batch is not committed, and why. `NoMemory` may come in place of `Stranger`, but not where the first command continues nothing. All but a
  -- fault of the device leaves the store unchanged, and a fault leaves what it knows in memory.
  pub record IsCommitRefused (refusal : Refusal) (batch : List Taken) (old new : Store D disk) : Type 0 where
    pub only : IsOneOf refusal (JournalFull ∷ Stranger ∷ NoMemory ∷ Fault ∷ [])
    pub full : refusal ≡ JournalFull → has_room old batch ≡ false
    pub stranger : refusal ≡ Stranger → all_grow (state_of old) batch ≡ false
    pub memory : refusal ≡ NoMemory → (has_room old batch ≡ true) × (first_grows (state_of old) batch ≡ true)
    pub unchanged : refusal ≢ Fault → IsUnchanged old new
    pub state : state_of new ≡ state_of old
    pub cells : known_cells new ≡ known_cells old
    pub jobs : kept_jobs new ≡ kept_jobs old
    pub marks : known_marks new ≡ known_marks old

  -- A store that works has to refuse a batch: it has no room for it, or the batch doesn't continue its state.
  pub record MustBeRefused {A : Type 0} (result : Result A Refusal) (batch : List Taken) (old : Store D disk) : Type 0 where
    pub full : has_failed old ≡ false → has_room old batch ≡ false → IsErrOf result JournalFull
    pub no_growth : has_failed old ≡ false → has_room old batch ≡ true → all_grow (state_of old) batch ≡ false
        → (IsErrOf result Stranger) ⊎ (IsErrOf result NoMemory)
