-- What follows from the definitions of a device: each law is promised by a function of `laws`.
use Rattle.std.specs.Prelude.{◌≡◌, ◌↔◌, ℕ, ◌+◌, ◌-◌, ◌≤◌, List, [], ◌++◌, length, take, drop, get_or}
use Rattle.disk.specs.Apart.{AreApart, IsApart, CoversMoreWithin, AreWrites}
pub use Rattle.disk.specs.Apart.{IsWithin}
use Rattle.disk.specs.Counted.{synced_moments}
use Rattle.disk.specs.Device.{State, History, MayLeave, overwritten, SameOutside, IsWrite, IsSync, IsAtMostOneStep}
use Rattle.disk.specs.Crash.{LeavesIn, Leaves, LeftSince}

-- what a read gives is one of the contents that a crash may leave
abbrev pub SeenMayBeLeft : Type 0
SeenMayBeLeft = (state : State) → MayLeave state state.seen

-- where no range is unsynced it is the only one
abbrev pub SyncedLeaves : Type 0
SyncedLeaves = (state : State) (content : List ℕ) → state.unsynced ≡ [] → MayLeave state content → content ≡ state.seen

-- after a write a crash may leave just what it might have left before, with any bytes in the range of the write
abbrev pub LeftByWrite : Type 0
LeftByWrite =
    (at count : ℕ) (old new : State) (content : List ℕ) → at + count ≤ length old.seen → IsWrite at count old new
    → (MayLeave new content ↔ ((before : List ℕ) × MayLeave old before × SameOutside at count before content))

-- After a list of writes to a synced device a crash leaves just what stood before them, with any bytes in each of their ranges, which of them
-- ever the system wrote, and in whatever order.
abbrev pub LeftByWrites : Type 0
LeftByWrites =
    (ranges : List (ℕ × ℕ)) (old new : State) (content : List ℕ) → old.unsynced ≡ [] → AreWrites ranges old new
    → (MayLeave new content ↔ MayLeave (record { seen = old.seen; unsynced = ranges }) content)

-- what one crash may leave in a range and another one elsewhere, a third one may leave: no range depends on another
abbrev pub LeftMixed : Type 0
LeftMixed =
    (at count : ℕ) (state : State) (here elsewhere : List ℕ) → at + count ≤ length state.seen → MayLeave state here → MayLeave state elsewhere
    → MayLeave state (overwritten elsewhere at (take count (drop at here)))

-- in a range apart from the unsynced ones a crash leaves what a read gives
abbrev pub LeftApart : Type 0
LeftApart =
    (at count : ℕ) (state : State) (content : List ℕ) → IsApart at count state.unsynced → MayLeave state content
    → take count (drop at content) ≡ take count (drop at state.seen)

-- each range is apart from the unsynced ones of a synced device
abbrev pub ApartSynced : Type 0
ApartSynced = (at count : ℕ) (ranges : List (ℕ × ℕ)) → ranges ≡ [] → IsApart at count ranges

-- and stays so while more is written in a range apart from it
abbrev pub ApartStill : Type 0
ApartStill =
    (at count other size : ℕ) (old new : List (ℕ × ℕ)) → AreApart at count other size → CoversMoreWithin at count old new
    → IsApart other size old → IsApart other size new

-- where one range changes, another one apart from it doesn't
abbrev pub SameElsewhere : Type 0
SameElsewhere =
    (at count other size : ℕ) (old new : List ℕ) → AreApart at count other size → SameOutside at count old new
    → take size (drop other new) ≡ take size (drop other old)

-- a write costs one call that is told of, and no sync
abbrev pub CostsWrite : Type 0
CostsWrite =
    (at count : ℕ) (old new : History) → IsAtMostOneStep (IsWrite at count) old new
    → (length new.past ≤ length old.past + 1) × (synced_moments new ≤ synced_moments old)

-- a sync costs one, which is a sync
abbrev pub CostsSync : Type 0
CostsSync =
    (old new : History) → IsAtMostOneStep IsSync old new
    → (length new.past ≤ length old.past + 1) × (synced_moments new ≤ synced_moments old + 1)

-- bytes put over others keep the length
abbrev pub LengthOverwritten : Type 0
LengthOverwritten = (old : List ℕ) (at : ℕ) (bytes : List ℕ) → at + length bytes ≤ length old → length (overwritten old at bytes) ≡ length old

-- the bytes before them stay
abbrev pub TakeOverwritten : Type 0
TakeOverwritten = (old : List ℕ) (at : ℕ) (bytes : List ℕ) → at ≤ length old → take at (overwritten old at bytes) ≡ take at old

-- from their place on they stand, and then the old ones
abbrev pub DropOverwritten : Type 0
DropOverwritten =
    (old : List ℕ) (at : ℕ) (bytes : List ℕ) → at ≤ length old → drop at (overwritten old at bytes) ≡ bytes ++ drop (at + length bytes) old

-- a place among them holds its byte
abbrev pub ByteOverwritten : Type 0
ByteOverwritten =
    (old : List ℕ) (at : ℕ) (bytes : List ℕ) (place : ℕ) → at ≤ length old → IsWithin at (length bytes) place
    → get_or (overwritten old at bytes) place 0 ≡ get_or bytes (place - at) 0

-- and nothing else changes
abbrev pub OverwrittenSameOutside : Type 0
OverwrittenSameOutside =
    (old : List ℕ) (at : ℕ) (bytes : List ℕ) → at + length bytes ≤ length old → SameOutside at (length bytes) old (overwritten old at bytes)

-- contents that are the same outside a range agree at each place outside
abbrev pub SameAt : Type 0
SameAt =
    (at count : ℕ) (old new : List ℕ) → SameOutside at count old new
    → (place : ℕ) → ¬ IsWithin at count place → get_or new place 0 ≡ get_or old place 0

-- they are the same outside a wider range
abbrev pub SameOutsideWider : Type 0
SameOutsideWider =
    (at size within count : ℕ) (old new : List ℕ) → at ≤ within → within + count ≤ at + size
    → SameOutside within count old new → SameOutside at size old new

-- one change in a range after another is one change in it
abbrev pub SameOutsideThen : Type 0
SameOutsideThen = (at size : ℕ) (a b c : List ℕ) → SameOutside at size a b → SameOutside at size b c → SameOutside at size a c

-- Promises of a run for a property P of contents, call by call.
module _ (P : List ℕ → Type 0) where
  -- a run begins in a synced state whose bytes have P
  abbrev pub Begins : Type 0
  Begins = (at_start : History) → at_start.now.unsynced ≡ [] → P at_start.now.seen → Leaves P at_start at_start

  -- or in any state, if each content that a crash may leave there has P
  abbrev pub BeginsAnywhere : Type 0
  BeginsAnywhere = (at_start : History) → LeavesIn P at_start.now → Leaves P at_start at_start

  -- a write, good or not: what might be left before it, with any bytes in its range, has P
  abbrev pub GoesOnWrite : Type 0
  GoesOnWrite =
      (old mid new : History) (at count : ℕ) → Leaves P old mid → IsAtMostOneStep (IsWrite at count) mid new → at + count ≤ length mid.now.seen
      → ((before content : List ℕ) → MayLeave mid.now before → SameOutside at count before content → P content) → Leaves P old new

  -- the same from a synced state, where the bytes before the write are those that a read gives
  abbrev pub GoesOnFirstWrite : Type 0
  GoesOnFirstWrite =
      (old mid new : History) (at count : ℕ) → Leaves P old mid → mid.now.unsynced ≡ [] → IsAtMostOneStep (IsWrite at count) mid new
      → at + count ≤ length mid.now.seen → ((content : List ℕ) → SameOutside at count mid.now.seen content → P content) → Leaves P old new

  -- a sync, good or not
  abbrev pub GoesOnSync : Type 0
  GoesOnSync = (old mid new : History) → Leaves P old mid → IsAtMostOneStep IsSync mid new → Leaves P old new

  -- one run after another
  abbrev pub GoesOnRun : Type 0
  GoesOnRun = (old mid new : History) → Leaves P old mid → Leaves P mid new → Leaves P old new

  -- by the clock: whatever a crash from the first moment of the run on might have left has P
  abbrev pub LeavesSince : Type 0
  LeavesSince = (old new : History) (content : List ℕ) → Leaves P old new → LeftSince new (length old.past) content → P content

-- what has P has Q
abbrev pub LeavesMap : (List ℕ → Type 0) → (List ℕ → Type 0) → Type 0
LeavesMap P Q = (old new : History) → ((content : List ℕ) → P content → Q content) → Leaves P old new → Leaves Q old new
