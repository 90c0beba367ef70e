-- What a check of both readings of a store finds, and why there is none.
use Rattle.std.specs.Prelude.{◌≡◌, ◌⊎◌, ◌-◌, ◌^◌, min, [], ◌∷◌, length}
use Rattle.refusal.specs.Refusal.{IsOneOf}
use Rattle.refusal.specs.declared.Refusal.{Refusal}
use Rattle.refusal.specs.declared.Refusal.TheVariants.{NotFormatted, OldFormat, Damaged, NoMemory, Fault}
use Rattle.disk.specs.declared.device.Disk.{Ghosts}
use Rattle.revision.specs.State.{State}
use Rattle.history.specs.declared.pick.Pick.TheVariants.{Newer}
use Rattle.recovery.specs.Layout.{IsFormatted, IsOldFormat}
use Rattle.recovery.specs.Found.{Found, FoundAs}
use Rattle.inspection.specs.declared.checking.Checked.{Checked}
use Rattle.inspection.specs.Matching.{IsSound, changes_in}

module _ {D : Type 0} (disk : Ghosts D) where
  -- Where the device has kept its word, the store on it is sound, and has as many documents and changes as is told.
  pub record IsFoundSound (checked : Checked D) (old : D) : Type 0 where
    pub sound : disk.honest checked.disk → IsSound (disk.seen old)
    pub documents : disk.honest checked.disk → (state : State) → Found (disk.seen old) Newer state → checked.documents ≡ length state.documents
    pub changes : disk.honest checked.disk → (state : State) → Found (disk.seen old) Newer state → checked.changes ≡ min (changes_in state.documents) (2 ^ 64 - 1)

  -- Why a store isn't found to be sound, where a device that has kept its word tells so. A store that ran is never called damaged.
  pub record CheckIsRefused (refusal : Refusal) (old new : D) : Type 0 where
    pub damaged : refusal ≡ Damaged → disk.honest new → ¬ IsSound (disk.seen old)
    pub ran : disk.honest new → (state : State) → FoundAs (disk.seen old) state → (refusal ≡ NoMemory) ⊎ (refusal ≡ Fault)
    pub not_formatted : refusal ≡ NotFormatted → disk.honest new → ¬ IsFormatted (disk.seen old)
    pub old_format : refusal ≡ OldFormat → disk.honest new → IsOldFormat (disk.seen old)
    pub only : IsOneOf refusal (NotFormatted ∷ OldFormat ∷ Damaged ∷ NoMemory ∷ Fault ∷ [])
