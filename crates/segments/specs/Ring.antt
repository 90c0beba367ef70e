-- What a ring knows of its slots, and what its calls leave of them.
use Rattle.std.specs.Prelude.{◌≡◌, ◌⊎◌, ℕ, ◌+◌, ◌-◌, ◌*◌, nat_le, Bool, true, false, Option, Some, None, List, length, set}
use Rattle.disk.specs.Device.{SameOutside}
use Rattle.journal.specs.Area.{Place, open_records}
use Rattle.segments.specs.declared.ring.Ring.{Ring}
use Rattle.segments.specs.Slot.{Segment}
use Rattle.segments.specs.Numbers.{IsNewest, IsNext, IsOldest, open_count}
use Rattle.segments.specs.Table.{slot_place, slot_at, numbers_of, HoldsTable, IsOpened, IsAppended, IsRetired}

-- where the first slot lies, how many bytes each has, and the number of each that is open
abbrev pub at_of : Ring → ℕ
at_of ring = ring.at

abbrev pub size_of : Ring → ℕ
size_of ring = ring.size

abbrev pub known_numbers : Ring → List (Option ℕ)
known_numbers ring = ring.numbers.items

-- how many bytes the slots have together
abbrev pub ring_size : Ring → ℕ
ring_size ring = length (known_numbers ring) * size_of ring

-- where the slots end
abbrev pub end_of : Ring → ℕ
end_of ring = at_of ring + ring_size ring

-- a body of so many bytes fits behind the records of an area
abbrev pub fits_into : Option Place → ℕ → Bool
fits_into None len = false
fits_into (Some place) len = nat_le (place.next + 6 + len) place.size

-- a body of so many bytes fits into the newest segment; there may be none
abbrev pub fits_newest : Ring → ℕ → Bool
fits_newest ring len = fits_into ring.newest len

-- how many bytes of the slots are in use: of the newest segment those up to the end of its records, and each other open slot whole
abbrev pub used_with : Ring → Option Place → ℕ
used_with ring None = 0
used_with ring (Some place) = (open_count (known_numbers ring) - 1) * size_of ring + 9 + place.next

abbrev pub used_bytes : Ring → ℕ
used_bytes ring = used_with ring ring.newest

-- This area is that of the newest segment of a table, and its next record goes behind the segment's bodies.
pub record IsNewestArea (at size : ℕ) (table : List (Option Segment)) (place : Place) : Type 0 where
  pub slot : ℕ
  pub segment : Segment
  pub has : slot_at table slot ≡ Some segment
  pub newest : IsNewest (numbers_of table) slot segment.number
  pub begins : place.at ≡ slot_place at size slot + 9
  pub long : place.size ≡ size - 9
  pub next : place.next ≡ length (open_records segment.bodies)

-- no area is known where no slot is open
abbrev pub KnowsNewest : ℕ → ℕ → List (Option Segment) → Option Place → Type 0
KnowsNewest at size table None = (slot : ℕ) → slot_at table slot ≡ None
KnowsNewest at size table (Some place) = IsNewestArea at size table place

-- the ring is that of a content, whose slots hold this table
pub record Fits (content : List ℕ) (ring : Ring) (table : List (Option Segment)) : Type 0 where
  pub holds : HoldsTable (at_of ring) (size_of ring) content table
  pub numbers : known_numbers ring ≡ numbers_of table
  pub newest : KnowsNewest (at_of ring) (size_of ring) table ring.newest

-- the ring's slots lie where they lay
pub record SamePlaces (old new : Ring) : Type 0 where
  pub at : at_of new ≡ at_of old
  pub size : size_of new ≡ size_of old
  pub count : length (known_numbers new) ≡ length (known_numbers old)

-- the ring is unchanged, or knows that the next slot is open
abbrev pub IsSameOrOpened : Ring → Ring → Type 0
IsSameOrOpened old new =
    (new ≡ old) ⊎ ((slot : ℕ) × (number : ℕ) × IsNext (known_numbers old) slot number × (known_numbers new ≡ set (known_numbers old) slot (Some number)))

-- A content that holds this table, and has not changed outside the ring's slots.
pub record HoldsInRing (old : List ℕ) (ring : Ring) (table : List (Option Segment)) (content : List ℕ) : Type 0 where
  pub outside : SameOutside (at_of ring) (ring_size ring) old content
  pub holds : HoldsTable (at_of ring) (size_of ring) content table

-- What a crash while a slot is opened leaves: the table before, or with the next slot open and empty.
abbrev pub IsLeftByOpening : List ℕ → Ring → List (Option Segment) → List ℕ → Type 0
IsLeftByOpening old ring table content =
    HoldsInRing old ring table content
    ⊎ ((after : List (Option Segment)) × IsOpened table after × HoldsInRing old ring after content)

-- The table that a body of so many bytes is appended to: the one before where it fits the newest segment, else one with
-- the next slot opened.
abbrev pub IsReady : Ring → ℕ → List (Option Segment) → List (Option Segment) → Type 0
IsReady ring len before ready =
    ((fits_newest ring len ≡ true) × (ready ≡ before)) ⊎ ((fits_newest ring len ≡ false) × IsOpened before ready)

-- What a crash before the append itself leaves: the table before, or the one that the body is appended to.
abbrev pub IsLeftReady : List ℕ → Ring → ℕ → List (Option Segment) → List ℕ → Type 0
IsLeftReady old ring len table content =
    HoldsInRing old ring table content
    ⊎ ((ready : List (Option Segment)) × IsReady ring len table ready × HoldsInRing old ring ready content)

-- What a crash within an append leaves: the table before, the one that the body is appended to, or that with the body.
abbrev pub IsLeftByAppend : List ℕ → Ring → List (Option Segment) → List ℕ → List ℕ → Type 0
IsLeftByAppend old ring table body content =
    HoldsInRing old ring table content
    ⊎ ((ready : List (Option Segment)) × IsReady ring (length body) table ready
    × (HoldsInRing old ring ready content
    ⊎ ((after : List (Option Segment)) × IsAppended ready body after × HoldsInRing old ring after content)))

-- What a crash while a segment is retired leaves: the table before, or without the oldest segment.
abbrev pub IsLeftByRetiring : List ℕ → Ring → List (Option Segment) → List ℕ → Type 0
IsLeftByRetiring old ring table content =
    HoldsInRing old ring table content
    ⊎ ((after : List (Option Segment)) × IsRetired table after × HoldsInRing old ring after content)

-- Nothing has changed but the gate of the slot of the oldest segment.
abbrev pub IsSameButOldest : Ring → List ℕ → List ℕ → Type 0
IsSameButOldest ring old new =
    (new ≡ old)
    ⊎ ((slot : ℕ) × (number : ℕ) × IsOldest (known_numbers ring) slot number × SameOutside (slot_place (at_of ring) (size_of ring) slot) 1 old new)

-- A call that is done: outside the slots nothing has changed, and the new ring is that of a content with this table.
pub record FitsNow (old : List ℕ) (before : Ring) (new : List ℕ) (after : Ring) (table : List (Option Segment)) : Type 0 where
  pub outside : SameOutside (at_of before) (ring_size before) old new
  pub fits : Fits new after table
