-- What opening a device makes of it, and when it is refused.
use Rattle.std.specs.Prelude.{◌≡◌, ◌≢◌, ◌⊎◌, ℕ, false, List, [], ◌∷◌}
use Rattle.refusal.specs.Refusal.{IsOneOf}
use Rattle.refusal.specs.declared.Refusal.{Refusal}
use Rattle.refusal.specs.declared.Refusal.TheVariants.{NotFormatted, OldFormat, Damaged, NoMemory, Fault}
use Rattle.disk.specs.declared.device.Disk.{Ghosts}
use Rattle.disk.specs.Device.{Rose, IsAtMostOneStep, IsSync}
use Rattle.disk.specs.Crash.{MayLeaveNow, history_of}
use Rattle.revision.specs.State.{State}
use Rattle.revision.specs.Agree.{Agree}
use Rattle.history.specs.declared.pick.Pick.{Pick}
use Rattle.recovery.specs.declared.store.Store.{Store}
use Rattle.recovery.specs.Layout.{IsFormatted, IsOldFormat}
use Rattle.recovery.specs.Found.{Found, FoundAs}
use Rattle.recovery.specs.Open.{IsOpen, device_of, state_of, has_failed, kept_jobs}
use Rattle.recovery.specs.Knows.{Knows}

module _ {D : Type 0} {disk : Ghosts D} where
  -- A store that was opened on a content, by a pick. Where its device has kept its word, the content represents the state that the store
  -- holds and no other, and ring, cells and marks are known, whoever wrote it. Where a store ran on the content with some state, this one is
  -- open, and agrees with that state.
  pub record IsOpenedStore (content : List ℕ) (pick : Pick) (store : Store D disk) : Type 0 where
    pub found : disk.honest (device_of store) → Found content pick (state_of store)
    pub only_state : disk.honest (device_of store) → (state : State) → Found content pick state → state ≡ state_of store
    pub knows : disk.honest (device_of store) → Knows content pick store
    pub runs_on : disk.honest (device_of store) → (state : State) → FoundAs content state → IsOpen store × Agree (state_of store) state
    pub works : has_failed store ≡ false
    pub no_jobs : kept_jobs store ≡ []

module _ {D : Type 0} (disk : Ghosts D) where
  -- A device that a store was opened on: a sync alone has moved it on, and none of its calls failed. From then on a crash leaves what was
  -- read.
  pub record IsReadDevice (old new : D) : Type 0 where
    pub time : IsAtMostOneStep IsSync (history_of disk old) (history_of disk new)
    pub seen : disk.seen new ≡ disk.seen old
    pub kept : (content : List ℕ) → MayLeaveNow disk new content → content ≡ disk.seen old
    pub good : disk.faults new ≡ disk.faults old
    pub honest : disk.honest new → disk.honest old

  -- Why a device isn't opened by a pick, where one that has kept its word tells so, and what it is when it comes back: a sync alone has moved
  -- it on. The content of a store that ran is refused for the device or for memory alone.
  pub record OpeningIsRefused (pick : Pick) (refusal : Refusal) (old new : D) : Type 0 where
    pub not_formatted : refusal ≡ NotFormatted → disk.honest new → ¬ IsFormatted (disk.seen old)
    pub old_format : refusal ≡ OldFormat → disk.honest new → IsOldFormat (disk.seen old)
    pub damaged :
        refusal ≡ Damaged → disk.honest new
        → IsFormatted (disk.seen old) × ¬ IsOldFormat (disk.seen old) × ((state : State) → ¬ Found (disk.seen old) pick state)
    pub open_or : disk.honest new → (state : State) → FoundAs (disk.seen old) state → (refusal ≡ NoMemory) ⊎ (refusal ≡ Fault)
    pub fault : refusal ≡ Fault → Rose (disk.faults old) (disk.faults new)
    pub no_fault : refusal ≢ Fault → disk.faults new ≡ disk.faults old
    pub only : IsOneOf refusal (NotFormatted ∷ OldFormat ∷ Damaged ∷ NoMemory ∷ Fault ∷ [])
    pub time : IsAtMostOneStep IsSync (history_of disk old) (history_of disk new)
    pub seen : disk.seen new ≡ disk.seen old
