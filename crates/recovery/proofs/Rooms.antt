-- Where a journal is full: a slot that was freed is room, as long as segments have numbers.
use Rattle.std.proofs.Common.{◌≡◌, ℕ, zero, suc, ◌-◌, ◌^◌, ◌≤◌, ◌<◌, Bool, true, false, Option, Some, None, List, [], ◌∷◌, length, set, refl, sym, ◌∙◌, ap, arith}
use Rattle.std.specs.Prelude.{◌||◌}
use Rattle.std.proofs.lemmas.Bool.{false≢true}
use Rattle.std.proofs.lemmas.Bool.Decides.{nat_tests}
use Rattle.std.proofs.lemmas.List.{length-map, map-set}
use Rattle.disk.specs.declared.device.Disk.{Ghosts}
use Rattle.segments.specs.Slot.{number_of}
use Rattle.segments.specs.Numbers.{newest_number, open_count}
use Rattle.segments.specs.Table.{numbers_of}
use Rattle.segments.specs.Ring.{known_numbers, fits_newest}
use Rattle.segments.specs.Room.{has_closed, has_free, has_room_for}
use Rattle.recovery.specs.declared.store.Store.{Store}
use Rattle.recovery.specs.Open.{IsOpen, IsFreedNow}
use Rattle.recovery.proofs.Superblocks.{ranges_of}
use Rattle.recovery.proofs.Marked.{there}

-- a slot that is closed is seen
closed_set : (numbers : List (Option ℕ)) (slot : ℕ) → slot < length numbers → has_closed (set numbers slot None) ≡ true
closed_set [] slot inside = absurd (omega (arith, inside))
closed_set (first ∷ others) zero inside = refl
closed_set (None ∷ others) (suc slot) inside = refl
closed_set (Some number ∷ others) (suc slot) inside = closed_set others slot (omega (arith, inside))

-- and the highest number isn't higher then
newest_set : (numbers : List (Option ℕ)) (slot : ℕ) → newest_number (set numbers slot None) ≤ newest_number numbers
newest_set [] slot = omega arith
newest_set (None ∷ others) zero = omega arith
newest_set (Some number ∷ others) zero = omega arith
newest_set (None ∷ others) (suc slot) = newest_set others slot
newest_set (Some number ∷ others) (suc slot) = omega (arith, newest_set others slot)

-- where none is closed, all are open
all_open : (numbers : List (Option ℕ)) → has_closed numbers ≡ false → open_count numbers ≡ length numbers
all_open [] none = refl
all_open (None ∷ others) none = absurd (false≢true (sym none))
all_open (Some number ∷ others) none = omega (arith, all_open others none)

-- no room: no slot is closed, or the numbers are used up
no_free : (numbers : List (Option ℕ)) (fits : Bool) → (fits || has_free numbers) ≡ false → has_closed numbers ≡ true → 2 ^ 64 - 1 ≤ newest_number numbers
no_free numbers fits none closed = grind (arith, nat_tests)

used_up : (numbers : List (Option ℕ)) (fits : Bool) → (fits || has_free numbers) ≡ false → open_count numbers < 2 → 2 ≤ length numbers → 2 ^ 64 - 1 ≤ newest_number numbers
used_up numbers fits none few slots = by_closed (has_closed numbers) refl
  where
    by_closed : (closed : Bool) → has_closed numbers ≡ closed → 2 ^ 64 - 1 ≤ newest_number numbers
    by_closed true is = no_free numbers fits none is
    by_closed false is = absurd (omega (arith, all_open numbers is, few, slots))

module _ {D : Type 0} {disk : Ghosts D} where
  -- still no room where the oldest segment was freed
  pub freed_up : (old new : Store D disk) (len : ℕ) (is_open : IsOpen old) → IsFreedNow old is_open new → has_room_for new.ring len ≡ false
      → 2 ^ 64 - 1 ≤ newest_number (known_numbers old.ring)
  freed_up old new len is_open freed none =
      let slot = freed.retired.slot in
      let before : known_numbers old.ring ≡ numbers_of is_open.table = is_open.fits.numbers in
      let after : known_numbers new.ring ≡ set (numbers_of is_open.table) slot None =
      freed.goes_on.fits.numbers ∙ ap numbers_of freed.retired.is ∙ map-set number_of is_open.table slot None in
      let inside : slot < length (numbers_of is_open.table) =
      omega (arith, there is_open.table slot freed.retired.segment freed.retired.has, length-map is_open.table number_of) in
      let up : 2 ^ 64 - 1 ≤ newest_number (known_numbers new.ring) =
      no_free (known_numbers new.ring) (fits_newest new.ring len) none (ap has_closed after ∙ closed_set (numbers_of is_open.table) slot inside) in
      omega (arith, up, ap newest_number after, newest_set (numbers_of is_open.table) slot, ap newest_number before)

  -- or where too few slots are open to free one
  pub few_up : (store : Store D disk) (len : ℕ) → IsOpen store → has_room_for store.ring len ≡ false → open_count (known_numbers store.ring) < 2
      → 2 ^ 64 - 1 ≤ newest_number (known_numbers store.ring)
  few_up store len is_open none few =
      let slots = is_open.holds.laid_out.in_slots.count in
      let low = (ranges_of store.shape is_open.holds.laid_out.names.in_range).slots_low in
      used_up (known_numbers store.ring) (fits_newest store.ring len) none few
      (omega (arith, ap (λ (l : List (Option ℕ)). length l) is_open.fits.numbers, length-map is_open.table number_of, slots, low))
