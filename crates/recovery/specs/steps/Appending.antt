-- A batch that is appended to the ring.
use Rattle.std.specs.Prelude.{◌≡◌, ◌+◌, ◌≤◌, ◌<◌, ◌^◌, ℕ, false, Option, List, [], ◌∷◌, length}
use Rattle.disk.specs.declared.device.Disk.{Ghosts}
use Rattle.journal.specs.BatchSpelling.{batch as spelled, batch_width}
use Rattle.refusal.specs.Refusal.{IsOneOf}
use Rattle.refusal.specs.declared.Refusal.{Refusal}
use Rattle.refusal.specs.declared.Refusal.TheVariants.{JournalFull, NoMemory, Fault}
use Rattle.revision.specs.Command.{Taken}
use Rattle.segments.specs.declared.ring.Ring.{Ring}
use Rattle.segments.specs.Slot.{Segment}
use Rattle.segments.specs.Table.{IsAppended}
use Rattle.segments.specs.Ring.{Fits, IsReady, FitsNow, end_of, size_of}
use Rattle.segments.specs.Room.{has_room_for}

-- the body stands behind the newest segment's, in a slot that was opened for it where it didn't fit
pub record IsDone (old : List ℕ) (before : Ring) (table : List (Option Segment)) (body : List ℕ) (new : List ℕ) (after : Ring) : Type 0 where
  pub ready : List (Option Segment)
  pub is_ready : IsReady before (length body) table ready
  pub now : List (Option Segment)
  pub appended : IsAppended ready body now
  pub fits : FitsNow old before new after now

-- A batch may be appended: it has a command, its count has four bytes, and it fits a slot of the ring, which lies within the content.
pub record MayBeAppended (batch : List Taken) (content : List ℕ) (ring : Ring) : Type 0 where
  pub some : 1 ≤ length batch
  pub short : length batch < 2 ^ 32
  pub fits : batch_width batch + 15 ≤ size_of ring
  pub wide : size_of ring ≤ 16777216
  pub within : end_of ring ≤ length content

module _ {D : Type 0} (disk : Ghosts D) where
  -- The batch is appended, whatever the slots held, and the device is synced.
  pub record IsBatchAppended (batch : List Taken) (before after : Ring) (old new : D) : Type 0 where
    pub done : (table : List (Option Segment)) → Fits (disk.seen old) before table → IsDone (disk.seen old) before table (spelled batch) (disk.seen new) after
    pub synced : disk.unsynced new ≡ []

  -- The batch is not appended, and why. `NoMemory` comes before any call of the device.
  pub record IsAppendRefused (refusal : Refusal) (batch : List Taken) (before after : Ring) (old new : D) : Type 0 where
    pub only : IsOneOf refusal (JournalFull ∷ NoMemory ∷ Fault ∷ [])
    pub full : refusal ≡ JournalFull → has_room_for before (batch_width batch) ≡ false
    pub untouched : refusal ≡ NoMemory → (new ≡ old) × (after ≡ before)
