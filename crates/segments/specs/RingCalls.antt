-- What a call of a ring says: what it is refused for, what it leaves, and what it costs.
use Rattle.std.specs.Prelude.{◌≡◌, ◌↔◌, ℕ, ◌+◌, ◌≤◌, Bool, true, Option, Some, None, List, [], ◌∷◌, length, set, Result, OnErr, IfErr, IsErrOf}
use Rattle.refusal.specs.Refusal.{IsOneOf}
use Rattle.refusal.specs.declared.Refusal.{Refusal}
use Rattle.refusal.specs.declared.Refusal.TheVariants.{Fault}
use Rattle.disk.specs.declared.device.Disk.{Ghosts}
use Rattle.disk.specs.Counted.{CostsInAll}
use Rattle.journal.specs.Area.{Place}
use Rattle.segments.specs.declared.ring.Ring.{Ring}
use Rattle.segments.specs.Slot.{Segment}
use Rattle.segments.specs.Numbers.{IsNext, IsOldest}
use Rattle.segments.specs.Table.{IsOpened, IsAppended, IsRetired}
use Rattle.segments.specs.Ring.{known_numbers, size_of, fits_newest, Fits, FitsNow, SamePlaces, IsSameOrOpened, IsReady}

-- This refusal comes exactly where P holds. Then the call has made none of the device, and ring and device are unchanged. Whatever else is
-- refused is a `Fault`.
pub record IsRefusedExactly {A D : Type 0} (refusal : Refusal) (P : Type 0) (result : Result A Refusal) (before after : Ring) (old new : D) : Type 0 where
  pub exact : IsErrOf result refusal ↔ P
  pub untouched : IsErrOf result refusal → (new ≡ old) × (after ≡ before)
  pub only : IfErr result (λ e. IsOneOf e (refusal ∷ Fault ∷ []))

-- The ring's slots lie where they lay, and a ring whose call is refused is unchanged.
pub record KeepsSlots {A : Type 0} (result : Result A Refusal) (before after : Ring) : Type 0 where
  pub places : SamePlaces before after
  pub err : OnErr result (after ≡ before)

module _ {D : Type 0} (disk : Ghosts D) where
  -- The next slot is open, whatever the slots held, and each body fits into it that a slot can hold. The device is synced.
  pub record SlotIsOpened (before after : Ring) (old new : D) : Type 0 where
    pub takes :
        (slot : ℕ) × (number : ℕ) × IsNext (known_numbers before) slot number × (known_numbers after ≡ set (known_numbers before) slot (Some number))
    pub room : (len : ℕ) → len + 15 ≤ size_of before → fits_newest after len ≡ true
    pub done :
        (table : List (Option Segment)) → Fits (disk.seen old) before table
        → (opened : List (Option Segment)) × IsOpened table opened × FitsNow (disk.seen old) before (disk.seen new) after opened
    pub synced : disk.unsynced new ≡ []

  -- The newest segment's area has room for a body of so many bytes: it had before, or the next slot was opened for it.
  pub record AreaIsReady (len : ℕ) (area : Place) (before after : Ring) (old new : D) : Type 0 where
    pub newest : after.newest ≡ Some area
    pub room : area.next + 6 + len ≤ area.size
    pub takes : IsSameOrOpened before after
    pub done :
        (table : List (Option Segment)) → Fits (disk.seen old) before table
        → (ready : List (Option Segment)) × IsReady before len table ready × FitsNow (disk.seen old) before (disk.seen new) after ready
    pub synced : disk.unsynced old ≡ [] → disk.unsynced new ≡ []

  -- The body is appended, whatever the slots held, to the newest segment or to one that was opened for it. The device is synced.
  pub record BodyIsAppended (body : List ℕ) (before after : Ring) (old new : D) : Type 0 where
    pub done :
        (table : List (Option Segment)) → Fits (disk.seen old) before table
        → (ready : List (Option Segment)) × IsReady before (length body) table ready
        × (appended : List (Option Segment)) × IsAppended ready body appended
        × FitsNow (disk.seen old) before (disk.seen new) after appended
    pub synced : disk.unsynced new ≡ []

  -- The slot of the oldest segment is closed, whatever the slots held. The device is synced.
  pub record OldestIsRetired (before after : Ring) (old new : D) : Type 0 where
    pub takes :
        (slot : ℕ) × (number : ℕ) × IsOldest (known_numbers before) slot number × (known_numbers after ≡ set (known_numbers before) slot None)
    pub done :
        (table : List (Option Segment)) → Fits (disk.seen old) before table
        → (retired : List (Option Segment)) × IsRetired table retired × FitsNow (disk.seen old) before (disk.seen new) after retired
    pub synced : disk.unsynced new ≡ []

  -- Eight calls of the device at most, of these four syncs, and half of that where the body fits the newest segment. A call that fails is
  -- counted too.
  pub record CostsByRoom (fits : Bool) (old new : D) : Type 0 where
    pub in_all : CostsInAll disk 8 4 old new
    pub where_it_fits : fits ≡ true → CostsInAll disk 4 2 old new
