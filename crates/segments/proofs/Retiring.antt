-- What closing the gate of the oldest segment's slot makes of the table.
use Rattle.std.proofs.Common.{◌≡◌, inl, inr, ⊎_elim, ℕ, ◌+◌, ◌-◌, ◌≤◌, ◌<◌, Option, Some, None, List, [], ◌∷◌, length, set, get_or, refl, sym, ◌∙◌, ap, subst, arith}
use Rattle.std.specs.Prelude.{◌⊎◌}
use Rattle.std.proofs.lemmas.List.{get_or-set_other}
use Rattle.disk.specs.Device.{History, IsWrite, IsAtMostOneStep, NoStep, OneStep, overwritten, SameOutside}
use Rattle.disk.proofs.CallerLemmas.{overwritten_same_outside, byte_overwritten, same_outside_wider}
use Rattle.journal.specs.Area.{Place}
use Rattle.segments.specs.Slot.{Segment, HoldsSegment, HoldsSlot}
use Rattle.segments.specs.Numbers.{open_count, NumbersDiffer, IsNewest, IsOldest}
use Rattle.segments.specs.Table.{slot_place, slot_at, slot_bytes, numbers_of, HoldsTable, IsRetired}
use Rattle.segments.specs.declared.ring.Ring.{Ring}
use Rattle.segments.specs.Ring.{known_numbers, ring_size, end_of, KnowsNewest, Fits, FitsNow, IsLeftByRetiring, IsSameButOldest}
use Rattle.segments.proofs.Places.{slot_before, first_byte}
use Rattle.segments.proofs.Slots.{gate_written}
use Rattle.segments.proofs.Numbering.{differ_set, newest_is_not_oldest, newest_stays}
use Rattle.segments.proofs.Tables.{number_held, numbers_set, numbers_long, segment_held, slot_there, kept, changed, within_ring}
use Rattle.segments.proofs.Rings.{fits_later}

-- a write, good or not, has changed nothing, or its range alone
write_outside : (at count : ℕ) (old new : History) → IsAtMostOneStep (IsWrite at count) old new → (new.now.seen ≡ old.now.seen) ⊎ SameOutside at count old.now.seen new.now.seen
write_outside at count old new (NoStep same) = inl (ap (λ (h : History). h.now.seen) same)
write_outside at count old new (OneStep more step) = inr step.seen

pub gate_outside : (ring : Ring) (slot number at : ℕ) → IsOldest (known_numbers ring) slot number → at ≡ slot_place ring.at ring.size slot
    → (old new : History) → IsAtMostOneStep (IsWrite at 1) old new → (last : List ℕ) → last ≡ new.now.seen → IsSameButOldest ring old.now.seen last
gate_outside ring slot number at oldest is old new time last same = ⊎_elim
    (λ still. inl (same ∙ still))
    (λ written. inr (
      slot,
      number,
      oldest,
      subst (λ n. SameOutside n 1 old.now.seen last) is (subst (λ (l : List ℕ). SameOutside at 1 old.now.seen l) (sym same) written),
    ))
    (write_outside at 1 old new time)

module _ (old : List ℕ) (ring : Ring) (table : List (Option Segment)) (fits : Fits old ring table) (within : end_of ring ≤ length old)
    (slot number : ℕ) (oldest : IsOldest (known_numbers ring) slot number) (two : 2 ≤ open_count (known_numbers ring)) where
  place : ℕ
  place = slot_place ring.at ring.size slot

  oldest_here : IsOldest (numbers_of table) slot number
  oldest_here = subst (λ (l : List (Option ℕ)). IsOldest l slot number) fits.numbers oldest

  two_here : 2 ≤ open_count (numbers_of table)
  two_here = omega (arith, two, ap open_count fits.numbers)

  found : (segment : Segment) × (slot_at table slot ≡ Some segment) × (segment.number ≡ number)
  found = segment_held (slot_at table slot) number (sym (number_held table slot) ∙ oldest_here.has)

  segment : Segment
  segment = found.0

  there : slot < length table
  there = slot_there table slot found.0 found.1

  among : slot < length (known_numbers ring)
  among = omega (arith, there, ap length fits.numbers, numbers_long table)

  large : 256 ≤ ring.size
  large = ring.size_low

  inside : slot_place ring.at ring.size slot + ring.size ≤ length old
  inside = omega (arith, slot_before slot (length (known_numbers ring)) ring.size among, within)

  held : HoldsSegment (slot_bytes ring.at ring.size old slot) found.0
  held = subst (λ (o : Option Segment). HoldsSlot (slot_bytes ring.at ring.size old slot) o) found.1 (fits.holds.each slot there)

  abbrev table_now : List (Option Segment)
  table_now = set table slot None

  is_retired : IsRetired table table_now
  is_retired = record { slot = slot; segment = found.0; has = found.1; oldest = subst (λ n. IsOldest (numbers_of table) slot n) (sym found.2) oldest_here; is = refl }

  numbers_now : numbers_of table_now ≡ set (numbers_of table) slot None
  numbers_now = numbers_set table slot None

  differ_now : NumbersDiffer (numbers_of table_now)
  differ_now = subst NumbersDiffer (sym numbers_now)
      (differ_set (numbers_of table) slot None (omega (arith, there, numbers_long table)) fits.holds.differ (λ other n apart has is. absurd cc))

  in_slot : (content : List ℕ) → SameOutside (slot_place ring.at ring.size slot) 1 old content → SameOutside (slot_place ring.at ring.size slot) ring.size old content
  in_slot content same = same_outside_wider (slot_place ring.at ring.size slot) ring.size (slot_place ring.at ring.size slot) 1 old content (omega arith) (omega (arith, large)) same

  in_ring : (content : List ℕ) → SameOutside (slot_place ring.at ring.size slot) 1 old content → SameOutside ring.at (ring_size ring) old content
  in_ring content same = within_ring ring.at ring.size slot (length (known_numbers ring)) old content among (in_slot content same)

  closed_now : (content : List ℕ) → SameOutside (slot_place ring.at ring.size slot) 1 old content → HoldsSlot (slot_bytes ring.at ring.size content slot) None → HoldsTable ring.at ring.size content table_now
  closed_now content same shut = changed ring.at ring.size slot old content table fits.holds (in_slot content same) None there shut differ_now

  -- at any moment of the gate's write
  pub retiring : (content : List ℕ) → SameOutside (slot_place ring.at ring.size slot) 1 old content → IsLeftByRetiring old ring table content
  retiring content same = ⊎_elim
      (λ shut. inr (table_now, is_retired, record { outside = in_ring content same; holds = closed_now content same shut }))
      (λ still. inl (record {
        outside = in_ring content same;
        holds = kept ring.at ring.size slot old content table fits.holds (in_slot content same)
            (subst (λ (o : Option Segment). HoldsSlot (slot_bytes ring.at ring.size content slot) o) (sym found.1) still);
      }))
      (gate_written (slot_place ring.at ring.size slot) ring.size old content found.0 large same held)

  -- the newest segment stays
  knows_now : (newest : Option Place) → KnowsNewest ring.at ring.size table newest → KnowsNewest ring.at ring.size table_now newest
  knows_now None none = absurd (let is : None ≡ Some found.0 = sym (none slot) ∙ found.1 in cc)
  knows_now (Some area) known =
      let apart = newest_is_not_oldest (numbers_of table) known.slot known.segment.number slot number fits.holds.differ two_here known.newest oldest_here in
      record {
        slot = known.slot;
        segment = known.segment;
        has = get_or-set_other table slot known.slot None None apart ∙ known.has;
        newest = subst (λ (l : List (Option ℕ)). IsNewest l known.slot known.segment.number) (sym numbers_now)
            (newest_stays (numbers_of table) known.slot known.segment.number slot (omega (arith, there, numbers_long table)) apart known.newest);
        begins = known.begins;
        long = known.long;
        next = known.next;
      }

  -- and then
  pub retired_ring : (new : List ℕ) (later : Ring) → new ≡ overwritten old (slot_place ring.at ring.size slot) (0 ∷ []) → later.at ≡ ring.at → later.size ≡ ring.size
      → known_numbers later ≡ set (known_numbers ring) slot None → later.newest ≡ ring.newest
      → (after : List (Option Segment)) × IsRetired table after × FitsNow old ring new later after
  retired_ring new later is at size numbers newest =
      let same : SameOutside (slot_place ring.at ring.size slot) 1 old new =
      subst (λ (l : List ℕ). SameOutside (slot_place ring.at ring.size slot) 1 old l) (sym is) (overwritten_same_outside old (slot_place ring.at ring.size slot) (0 ∷ []) (omega (arith, inside, large))) in
      let here : slot_place ring.at ring.size slot - slot_place ring.at ring.size slot ≡ 0 = omega arith in
      let gate : get_or (slot_bytes ring.at ring.size new slot) 0 0 ≡ 0 =
      first_byte (slot_place ring.at ring.size slot) ring.size new (omega (arith, large))
      ∙ ap (λ (l : List ℕ). get_or l (slot_place ring.at ring.size slot) 0) is
      ∙ byte_overwritten old (slot_place ring.at ring.size slot) (0 ∷ []) (slot_place ring.at ring.size slot) (omega (arith, inside)) (omega arith, omega arith)
      ∙ ap (λ k. get_or (0 ∷ []) k 0) here in (
        table_now,
        is_retired,
        record {
          outside = in_ring new same;
          fits = fits_later ring.at ring.size new later table_now ring.newest at size newest (closed_now new same (λ open_there. absurd (omega (arith, gate, open_there))))
              (numbers ∙ ap (λ (l : List (Option ℕ)). set l slot None) fits.numbers ∙ sym numbers_now) (knows_now ring.newest fits.newest);
        },
      )
