-- The rings of contents, and what a call makes of them.
use Rattle.std.proofs.Common.{◌≡◌, inl, inr, ⊎_elim, ℕ, ◌+◌, ◌-◌, ◌≤◌, ◌<◌, ◌^◌, Option, Some, None, List, [], ◌∷◌, length, set, refl, sym, ◌∙◌, ap, subst, arith}
use Rattle.std.proofs.lemmas.List.{get_or-set_same}
use Rattle.disk.specs.Device.{overwritten, SameOutside}
use Rattle.journal.specs.Area.{open_gate, IsGated, Place}
use Rattle.segments.specs.Slot.{Segment, HoldsSlot, empty_segment}
use Rattle.segments.specs.Numbers.{NumbersDiffer, IsNext, IsNewest}
use Rattle.segments.specs.Table.{slot_place, slot_at, slot_bytes, numbers_of, HoldsTable, IsOpened}
use Rattle.segments.specs.declared.ring.Ring.{Ring}
use Rattle.segments.specs.Ring.{known_numbers, ring_size, end_of, KnowsNewest, Fits, FitsNow, HoldsInRing, IsLeftByOpening}
use Rattle.segments.proofs.Places.{slot_before}
use Rattle.segments.proofs.Slots.{head_of, opening_slot, opened_slot, opened_outside}
use Rattle.segments.proofs.Numbering.{next_differs, next_newest}
use Rattle.segments.proofs.Tables.{number_held, numbers_set, numbers_long, nothing_held, kept, changed, within_ring}

-- a ring of these slots, which knows their numbers and the newest segment's area
pub fits_later : (at size : ℕ) (content : List ℕ) (later : Ring) (table : List (Option Segment)) (newest : Option Place) → later.at ≡ at → later.size ≡ size → later.newest ≡ newest
    → HoldsTable at size content table → known_numbers later ≡ numbers_of table → KnowsNewest at size table newest → Fits content later table
fits_later at size content later table newest is_at is_size is_newest holds numbers knows = record {
  holds = subst (λ n. HoldsTable n later.size content table) (sym is_at) (subst (λ n. HoldsTable at n content table) (sym is_size) holds);
  numbers = numbers;
  newest =
      subst (λ n. KnowsNewest n later.size table later.newest) (sym is_at) (subst (λ n. KnowsNewest at n table later.newest) (sym is_size)
      (subst (λ (o : Option Place). KnowsNewest at size table o) (sym is_newest) knows));
}

-- nothing has changed
pub same_ring : (old : List ℕ) (ring : Ring) (table : List (Option Segment)) → Fits old ring table → HoldsInRing old ring table old
same_ring old ring table fits = record { outside = record { same_length = refl; before = refl; after = refl }; holds = fits.holds }

module _ (old : List ℕ) (ring : Ring) (table : List (Option Segment)) (fits : Fits old ring table) (within : end_of ring ≤ length old) where
  same_count : length (known_numbers ring) ≡ length table
  same_count = ap length fits.numbers ∙ numbers_long table

  -- the next slot is opened
  module _ (slot number : ℕ) (next : IsNext (known_numbers ring) slot number) (in_range : number < 2 ^ 64) where
    next_here : IsNext (numbers_of table) slot number
    next_here = subst (λ (l : List (Option ℕ)). IsNext l slot number) fits.numbers next

    there : slot < length table
    there = omega (arith, same_count, next.free.there)

    inside : slot_place ring.at ring.size slot + ring.size ≤ length old
    inside = omega (arith, slot_before slot (length (known_numbers ring)) ring.size next.free.there, within)

    empty_before : slot_at table slot ≡ None
    empty_before = nothing_held (slot_at table slot) (sym (number_held table slot) ∙ next_here.free.closed)

    closed_before : HoldsSlot (slot_bytes ring.at ring.size old slot) None
    closed_before = subst (λ (o : Option Segment). HoldsSlot (slot_bytes ring.at ring.size old slot) o) empty_before (fits.holds.each slot there)

    abbrev pub with_slot : List (Option Segment)
    with_slot = set table slot (Some (empty_segment number))

    opened : IsOpened table with_slot
    opened = record { slot = slot; number = number; next = next_here; is = refl }

    differ_now : NumbersDiffer (numbers_of with_slot)
    differ_now = subst NumbersDiffer (sym (numbers_set table slot (Some (empty_segment number)))) (next_differs (numbers_of table) slot number next_here fits.holds.differ)

    -- at any moment
    pub opening : (content : List ℕ) → IsGated (slot_place ring.at ring.size slot) (head_of number) old content → IsLeftByOpening old ring table content
    opening content gated =
        let left = opening_slot (slot_place ring.at ring.size slot) ring.size number old ring.size_low inside (omega (arith, next.above)) in_range closed_before content gated in
        let outside : SameOutside ring.at (ring_size ring) old content = within_ring ring.at ring.size slot (length (known_numbers ring)) old content next.free.there left.0 in
        ⊎_elim
        (λ shut. inl (record {
          outside = outside;
          holds = kept ring.at ring.size slot old content table fits.holds left.0 (subst (λ (o : Option Segment). HoldsSlot (slot_bytes ring.at ring.size content slot) o) (sym empty_before) shut);
        }))
        (λ held. inr (
          with_slot,
          opened,
          record {
            outside = outside;
            holds = changed ring.at ring.size slot old content table fits.holds left.0 (Some (empty_segment number)) there held differ_now;
          },
        ))
        left.1

    -- and then
    pub opened_ring : (new : List ℕ) (later : Ring) (area : Place) → new ≡ overwritten (overwritten old (slot_place ring.at ring.size slot + 1) (head_of number)) (slot_place ring.at ring.size slot) (open_gate ∷ [])
        → later.at ≡ ring.at → later.size ≡ ring.size → known_numbers later ≡ set (known_numbers ring) slot (Some number) → later.newest ≡ Some area
        → area.at ≡ slot_place ring.at ring.size slot + 9 → area.size ≡ ring.size - 9 → area.next ≡ 0
        → (after : List (Option Segment)) × IsOpened table after × FitsNow old ring new later after
    opened_ring new later area is at size numbers newest begins long first =
        let place = slot_place ring.at ring.size slot in
        let outside : SameOutside place ring.size old new = subst (λ (l : List ℕ). SameOutside place ring.size old l) (sym is) (opened_outside place ring.size number old ring.size_low inside) in
        let held : HoldsSlot (slot_bytes ring.at ring.size new slot) (Some (empty_segment number)) =
        subst (λ (l : List ℕ). HoldsSlot (slot_bytes ring.at ring.size l slot) (Some (empty_segment number))) (sym is)
        (opened_slot place ring.size number old ring.size_low inside (omega (arith, next.above)) in_range) in
        let now : numbers_of with_slot ≡ set (numbers_of table) slot (Some number) = numbers_set table slot (Some (empty_segment number)) in (
          with_slot,
          opened,
          record {
            outside = within_ring ring.at ring.size slot (length (known_numbers ring)) old new next.free.there outside;
            fits = fits_later ring.at ring.size new later with_slot (Some area) at size newest
                (changed ring.at ring.size slot old new table fits.holds outside (Some (empty_segment number)) there held differ_now)
                (numbers ∙ ap (λ (l : List (Option ℕ)). set l slot (Some number)) fits.numbers ∙ sym now)
                (record {
                  slot = slot;
                  segment = empty_segment number;
                  has = get_or-set_same table slot (Some (empty_segment number)) None there;
                  newest = subst (λ (l : List (Option ℕ)). IsNewest l slot number) (sym now) (next_newest (numbers_of table) slot number next_here);
                  begins = begins;
                  long = long;
                  next = first;
                });
          },
        )
