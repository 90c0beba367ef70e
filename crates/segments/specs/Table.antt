-- A table of what each slot holds, and what opening a slot, appending a body and retiring a segment make of it.
use Rattle.std.specs.Prelude.{◌≡◌, ℕ, ◌+◌, ◌*◌, ◌<◌, Option, Some, None, List, [], ◌∷◌, ◌++◌, length, map, set, get_or, take, drop}
use Rattle.segments.specs.Slot.{Segment, HoldsSlot, number_of, empty_segment}
use Rattle.segments.specs.Numbers.{NumbersDiffer, IsNext, IsNewest, IsOldest}

-- where slot s begins, from 0: slots of one size lie one behind another
abbrev pub slot_place : ℕ → ℕ → ℕ → ℕ
slot_place at size slot = at + slot * size

-- its bytes in the content of a device
abbrev pub slot_bytes : ℕ → ℕ → List ℕ → ℕ → List ℕ
slot_bytes at size content slot = take size (drop (slot_place at size slot) content)

-- what a slot holds; a slot that isn't there holds nothing
abbrev pub slot_at : List (Option Segment) → ℕ → Option Segment
slot_at table slot = get_or table slot None

-- the numbers of a table
abbrev pub numbers_of : List (Option Segment) → List (Option ℕ)
numbers_of table = map number_of table

-- A content holds a table: each slot holds what the table says, and open slots have different numbers.
pub record HoldsTable (at size : ℕ) (content : List ℕ) (table : List (Option Segment)) : Type 0 where
  pub each : (slot : ℕ) → slot < length table → HoldsSlot (slot_bytes at size content slot) (slot_at table slot)
  pub differ : NumbersDiffer (numbers_of table)

-- the next slot is opened: it holds a segment without bodies
pub record IsOpened (before after : List (Option Segment)) : Type 0 where
  pub slot : ℕ
  pub number : ℕ
  pub next : IsNext (numbers_of before) slot number
  pub is : after ≡ set before slot (Some (empty_segment number))

-- a body is appended to the newest segment
pub record IsAppended (before : List (Option Segment)) (body : List ℕ) (after : List (Option Segment)) : Type 0 where
  pub slot : ℕ
  pub segment : Segment
  pub has : slot_at before slot ≡ Some segment
  pub newest : IsNewest (numbers_of before) slot segment.number
  pub is : after ≡ set before slot (Some (record segment { bodies = segment.bodies ++ body ∷ [] }))

-- the slot of the oldest segment is closed
pub record IsRetired (before after : List (Option Segment)) : Type 0 where
  pub slot : ℕ
  pub segment : Segment
  pub has : slot_at before slot ≡ Some segment
  pub oldest : IsOldest (numbers_of before) slot segment.number
  pub is : after ≡ set before slot None
