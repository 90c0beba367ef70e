-- What a device holds, what its calls do to that, and what a crash may leave of it. Bytes are any numbers here:
-- what holds for all of them holds for those below 256.
use Rattle.std.specs.Prelude.{◌≡◌, ℕ, ◌+◌, ◌-◌, ◌≤◌, ◌<◌, ◌^◌, min, List, [], ◌∷◌, ◌++◌, length, take, drop, slice_index, Any}

-- a device at one moment: the bytes that a read gives, and the ranges (offset, length) written since the last good sync
pub record State : Type 0 where
  pub seen : List ℕ
  pub unsynced : List (ℕ × ℕ)

-- a device up to now: its state, and the states before it, newest first
pub record History : Type 0 where
  pub now : State
  pub past : List State

-- the history that a device's members tell
abbrev pub history : {D : Type 0} → (D → List ℕ) → (D → List (ℕ × ℕ)) → (D → List State) → D → History
history seen unsynced past d = record { now = record { seen = seen d; unsynced = unsynced d }; past = past d }

-- a place lies in one of the ranges
abbrev pub IsCovered : List (ℕ × ℕ) → ℕ → Type 0
IsCovered ranges place = Any (λ range. (range.0 ≤ place) × (place < range.0 + range.1)) ranges

-- A crash in this state may leave each content of its length that agrees with it outside the unsynced ranges.
pub record MayLeave (state : State) (content : List ℕ) : Type 0 where
  pub same_length : length content ≡ length state.seen
  pub outside : (place : ℕ) → ¬ IsCovered state.unsynced place → slice_index content place ≡ slice_index state.seen place

-- the bytes, with these put over what stood at this offset
abbrev pub overwritten : List ℕ → ℕ → List ℕ → List ℕ
overwritten old at bytes = take at old ++ (bytes ++ drop (at + length bytes) old)

-- new is old but for the bytes of one range, which may be any
pub record SameOutside (at count : ℕ) (old new : List ℕ) : Type 0 where
  pub same_length : length new ≡ length old
  pub before : take at new ≡ take at old
  pub after : drop (at + count) new ≡ drop (at + count) old

-- a write, good or torn: some bytes stand in its range, which is unsynced from now on
pub record IsWrite (at count : ℕ) (old new : State) : Type 0 where
  pub seen : SameOutside at count old.seen new.seen
  pub unsynced : new.unsynced ≡ (at, count) ∷ old.unsynced

-- a good sync: no range is unsynced
pub record IsSync (old new : State) : Type 0 where
  pub seen : new.seen ≡ old.seen
  pub unsynced : new.unsynced ≡ []

-- a call leaves all unchanged, or its step comes and the old state is the newest of the past ones
pub data IsAtMostOneStep (Step : State → State → Type 0) (old new : History) : Type 0 where
  NoStep : new ≡ old → IsAtMostOneStep Step old new
  OneStep : new.past ≡ old.now ∷ old.past → Step old.now new.now → IsAtMostOneStep Step old new

-- the most failed calls that a device counts
abbrev pub most_faults : ℕ
most_faults = 2 ^ 64 - 1

-- A count of failures rose; at its top, where every call fails, standing still counts as a rise.
abbrev pub Rose : ℕ → ℕ → Type 0
Rose before after = min (before + 1) most_faults ≤ after
