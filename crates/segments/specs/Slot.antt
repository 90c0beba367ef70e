-- What a slot holds: nothing, or a segment.
use Rattle.std.specs.Prelude.{◌≡◌, ◌≢◌, ℕ, ◌<◌, ◌≤◌, ◌^◌, Option, Some, None, List, [], take, drop, slice_index}
use Rattle.std.specs.Int.{w64, to_le_bytes}
use Rattle.journal.specs.Area.{open_gate, HoldsBodies}

-- a segment: its number, and the bodies of its records
pub record Segment : Type 0 where
  pub number : ℕ
  pub bodies : List (List ℕ)

-- a segment that was just opened
abbrev pub empty_segment : ℕ → Segment
empty_segment number = record { number = number; bodies = [] }

-- The bytes of a slot hold a segment: the slot's gate is open, the number stands behind it in eight bytes, and the area
-- behind that holds the bodies.
pub record HoldsSegment (bytes : List ℕ) (segment : Segment) : Type 0 where
  pub gate : slice_index bytes 0 ≡ open_gate
  pub number : take 8 (drop 1 bytes) ≡ to_le_bytes w64 segment.number
  pub from_one : 1 ≤ segment.number
  pub in_range : segment.number < 2 ^ 64
  pub bodies : HoldsBodies segment.bodies (drop 9 bytes)

-- nothing, where the slot's gate is closed
abbrev pub HoldsSlot : List ℕ → Option Segment → Type 0
HoldsSlot bytes None = slice_index bytes 0 ≢ open_gate
HoldsSlot bytes (Some segment) = HoldsSegment bytes segment

-- the number of what a slot holds
abbrev pub number_of : Option Segment → Option ℕ
number_of None = None
number_of (Some segment) = Some segment.number
