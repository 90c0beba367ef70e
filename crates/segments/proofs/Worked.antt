-- Rings of two and of three slots, computed.
use Rattle.std.proofs.Common.{◌≡◌, true, false, ℕ, zero, suc, ◌<◌, Some, None, Option, List, [], ◌∷◌, refl, lit<, arith}
use Rattle.journal.specs.Area.{Place}
use Rattle.segments.specs.Slot.{Segment}
use Rattle.segments.specs.Numbers.{number_at, newest_number, open_count, IsFull, IsNext}
use Rattle.segments.specs.Table.{numbers_of}
use Rattle.segments.specs.Order.{bodies_of}
use Rattle.segments.specs.Ring.{fits_into}

-- an area of a slot of 256 bytes, whose next record goes there
abbrev area : ℕ → Option Place
area next = Some (record { at = 9; size = 247; next = next })

-- behind a body of 100 bytes one of 136 fills the slot, and one of 137 doesn't fit; behind that in a slot of its own another doesn't
pub fills : fits_into (area 105) 136 ≡ true
fills = refl

pub one_more : fits_into (area 105) 137 ≡ false
one_more = refl

pub in_the_second : fits_into (area 142) 137 ≡ false
in_the_second = refl

-- segments 5 and 3 stand in order of their numbers, whichever slots they lie in
abbrev three_slots : List (Option Segment)
three_slots = Some (record { number = 5; bodies = (97 ∷ []) ∷ [] }) ∷ None ∷ Some (record { number = 3; bodies = (98 ∷ []) ∷ (99 ∷ []) ∷ [] }) ∷ []

pub three_in_order : bodies_of three_slots ≡ (98 ∷ []) ∷ (99 ∷ []) ∷ (97 ∷ []) ∷ []
three_in_order = refl

pub three_newest : newest_number (numbers_of three_slots) ≡ 5
three_newest = refl

pub three_open : open_count (numbers_of three_slots) ≡ 2
three_open = refl

-- the closed slot is opened next, under the number 6
pub three_next : IsNext (numbers_of three_slots) 1 6
three_next = record { free = record { there = lit< tt; closed = refl; next = lit< tt }; lowest = first; above = refl }
  where
    first : (other : ℕ) → other < 1 → number_at (numbers_of three_slots) other ≡ None → ⊥
    first zero below is = absurd cc
    first (suc other) below is = absurd (omega (arith, below))

-- of none that is open the first one is opened, under the number 1
pub first_next : IsNext (None ∷ None ∷ []) 0 1
first_next = record { free = record { there = lit< tt; closed = refl; next = lit< tt }; lowest = λ other below is. absurd (omega (arith, below)); above = refl }

-- no slot is free where all are open, nor behind the number 2^64 - 1
pub two_full : IsFull (Some 1 ∷ Some 2 ∷ [])
two_full zero free = let is : ◌≡◌ {A = Option ℕ} (Some 1) None = free.closed in absurd cc
two_full (suc zero) free = let is : ◌≡◌ {A = Option ℕ} (Some 2) None = free.closed in absurd cc
two_full (suc (suc slot)) free = absurd (omega (arith, free.there))

pub spent_full : IsFull (Some 18446744073709551615 ∷ None ∷ [])
spent_full slot free = absurd (omega (arith, free.next))
