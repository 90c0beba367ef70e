-- What bringing the documents of a store to a new device answers, and what it leaves of both devices, whether they are cut or copied.
use Rattle.std.specs.Prelude.{◌≡◌, ◌⊎◌, ℕ, List, [], ◌∷◌, length}
use Rattle.disk.specs.declared.device.Disk.{Ghosts}
use Rattle.disk.specs.Crash.{MayLeaveNow, history_of}
use Rattle.disk.specs.Device.{Rose}
use Rattle.refusal.specs.Refusal.{IsOneOf}
use Rattle.refusal.specs.declared.Refusal.{Refusal}
use Rattle.refusal.specs.declared.Refusal.TheVariants.{NotFormatted, AlreadyFormatted, Damaged, BadShape, NoMemory, Fault}
use Rattle.history.specs.declared.pick.Pick.TheVariants.{Newer}
use Rattle.milestone.specs.declared.format.Format.{Format}
use Rattle.milestone.specs.declared.format.Format.TheVariants.{One}
use Rattle.revision.specs.State.{State}
use Rattle.recovery.specs.declared.shape.Shape.{Shape}
use Rattle.recovery.specs.Found.{FoundIn}
use Rattle.recovery.specs.Formatting.{IsUnformatted, IsOnlySynced, LeavesFromSync}
use Rattle.recovery.specs.Layout.{IsFormatted, IsOfFormat}
use Rattle.migration.specs.Copied.{StandsFor, IsCopied}
use Rattle.migration.specs.Migrated.{AreCut, IsMigrated}
use Rattle.migration.specs.Old.{Old}

-- a device without a store, or whose content is this
abbrev pub IsUnformattedOr : (List ℕ → Type 0) → List ℕ → Type 0
IsUnformattedOr Is content = IsUnformatted content ⊎ Is content

-- ---- the old device

module _ {A : Type 0} (disk : Ghosts A) where
  -- A device that has kept its word had a store of this format: a state was found on it.
  abbrev pub HadStore : Format → A → A → Type 0
  HadStore format old new = disk.honest new → (state : State) × FoundIn format (disk.seen old) Newer state

  -- Where a device has kept its word, this holds of the shape and the state of the store of this format that was found on it.
  abbrev pub OfStore : Format → (Shape → State → Type 0) → A → A → Type 0
  OfStore format Holds old new = disk.honest new → (state : State) → (is : FoundIn format (disk.seen old) Newer state) → Holds is.shape state

  -- Why a device isn't read as a store of this format, where one that has kept its word tells so. The refusal for the letters of the other
  -- format is named.
  pub record ReadingIsRefused (format other : Format) (for_other refusal : Refusal) (old new : A) : Type 0 where
    pub not_formatted : refusal ≡ NotFormatted → disk.honest new → ¬ IsFormatted (disk.seen old)
    pub other_format : refusal ≡ for_other → disk.honest new → IsOfFormat other (disk.seen old)
    pub damaged :
        refusal ≡ Damaged → disk.honest new
        → IsFormatted (disk.seen old) × ¬ IsOfFormat other (disk.seen old) × ((state : State) → ¬ FoundIn format (disk.seen old) Newer state)

  -- A store of the first format was read: its shape, and its documents, cut.
  pub record IsOldRead (read : Old) (old new : A) : Type 0 where
    pub found : HadStore One old new
    pub shape : OfStore One (λ shape state. shape ≡ read.shape) old new
    pub cut : OfStore One (λ shape state. AreCut state read.start) old new
    pub synced : disk.unsynced new ≡ []

  -- A content is a store with the documents of the old one, cut: in that one's shape.
  abbrev pub IsMigratedFrom : A → A → List ℕ → Type 0
  IsMigratedFrom old new content = OfStore One (λ shape state. IsMigrated shape state content) old new

  -- A content is a store of this shape with the documents of the old one, copied: of whatever state the old content represents.
  abbrev pub IsCopiedFrom : Shape → A → A → List ℕ → Type 0
  IsCopiedFrom shape old new content = disk.honest new → (state : State) → StandsFor (disk.seen old) state → IsCopied shape state content

-- ---- the new device

module _ {B : Type 0} (disk : Ghosts B) where
  -- A store was made on a device that had none, and is synced.
  pub record IsMadeStore (Is : List ℕ → Type 0) (old new : B) : Type 0 where
    pub is : Is (disk.seen new)
    pub synced : disk.unsynced new ≡ []
    pub had_none : disk.honest new → ¬ IsFormatted (disk.seen old)

  -- A device that has a store is synced at most. One without a store is left without one, or with the new one, by a crash at any moment from
  -- its first sync on. Its length stays.
  pub record MakesOrSpares (Is : List ℕ → Type 0) (old new : B) : Type 0 where
    pub kept : disk.honest new → IsFormatted (disk.seen old) → IsOnlySynced (history_of disk old) (history_of disk new)
    pub from_sync : IsUnformatted (disk.seen old) → LeavesFromSync (IsUnformattedOr Is) (history_of disk old) (history_of disk new)
    pub length : length (disk.seen new) ≡ length (disk.seen old)

  -- Why no store is made on a device, and what is left of it. `AlreadyFormatted` comes where it has a store, and `BadShape` where it has none and
  -- doesn't suit. All but `Fault` and `NoMemory` come before the first write, and `NoMemory` leaves the superblock's gate closed.
  pub record MakingIsRefused (Unfit : Type 0) (refusal : Refusal) (old new : B) : Type 0 where
    pub already_formatted : refusal ≡ AlreadyFormatted → disk.honest new → IsFormatted (disk.seen old)
    pub formatted_first : refusal ≡ BadShape → disk.honest new → ¬ IsFormatted (disk.seen old)
    pub unfit : refusal ≡ BadShape → Unfit
    pub unwritten : (refusal ≡ Fault) ⊎ ((refusal ≡ NoMemory) ⊎ IsOnlySynced (history_of disk old) (history_of disk new))
    pub memory : refusal ≡ NoMemory → IsUnformatted (disk.seen old) → IsUnformatted (disk.seen new)

-- ---- both

module _ {A B : Type 0} (a : Ghosts A) (b : Ghosts B) where
  -- The documents of a store that was found on the old device are a store on the new one. A crash leaves of the old device what was read.
  pub record IsBrought (format : Format) (Is : List ℕ → Type 0) (from from_now : A) (to to_now : B) : Type 0 where
    pub found : HadStore a format from from_now
    pub kept : (content : List ℕ) → MayLeaveNow a from_now content → content ≡ a.seen from
    pub made : IsMadeStore b Is to to_now

  -- They are not, and why. What speaks against the new device comes only where a store was found on the old one.
  pub record BringingIsRefused (format other : Format) (for_other : Refusal) (Unfit : Type 0) (refusal : Refusal) (from from_now : A) (to to_now : B) : Type 0 where
    pub only : IsOneOf refusal (NotFormatted ∷ for_other ∷ Damaged ∷ BadShape ∷ AlreadyFormatted ∷ NoMemory ∷ Fault ∷ [])
    pub of_old : ReadingIsRefused a format other for_other refusal from from_now
    pub of_new : MakingIsRefused b Unfit refusal to to_now
    pub old_first : (refusal ≡ AlreadyFormatted) ⊎ (refusal ≡ BadShape) → HadStore a format from from_now
    pub failed : refusal ≡ Fault → Rose (a.faults from) (a.faults from_now) ⊎ Rose (b.faults to) (b.faults to_now)
