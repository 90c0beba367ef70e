-- The ring of what was read.
use Rattle.std.proofs.Common.{◌≡◌, ◌≤◌, ℕ, ◌+◌, ◌-◌, ◌*◌, ◌<◌, Option, Some, None, List, [], ◌∷◌, length, map, refl, sym, ◌∙◌, ap, subst, arith}
use Rattle.std.proofs.lemmas.List.{length-map, ext_get_or}
use Rattle.std.proofs.Math.ListN.{get_or-map}
use Rattle.journal.specs.Area.{Place}
use Rattle.segments.specs.declared.reading.ReadSegment.{ReadSegment}
use Rattle.segments.specs.declared.ring.Ring.{Ring}
use Rattle.segments.specs.Slot.{Segment, HoldsSlot}
use Rattle.segments.specs.Numbers.{number_at, NumbersDiffer, IsNewest}
use Rattle.segments.specs.Table.{slot_place, slot_at, slot_bytes, numbers_of, HoldsTable}
use Rattle.segments.specs.Ring.{known_numbers, KnowsNewest, Fits}
use Rattle.segments.specs.steps.Reading.{segment_of, number_read, area_read, read_of, KnowsArea, KnowsNext, AreRead, KnowAreas, IsDamaged, IsNewestRead}
use Rattle.segments.proofs.Places.{slot_before}
use Rattle.segments.proofs.Numbering.{number_inside}
use Rattle.segments.proofs.OneTable.{one_slot}
use Rattle.segments.proofs.Rings.{fits_later}

-- the newest segment's area, where its slot was found by the numbers
pub newest_read : (numbers : List (Option ℕ)) (slots : List (Option ReadSegment)) → numbers ≡ map number_read slots → (slot number : ℕ) → IsNewest numbers slot number
    → (x : Option ReadSegment) → x ≡ read_of slots slot → (r : Option Place) → r ≡ area_read x → IsNewestRead numbers slots r
newest_read numbers slots same slot number is_newest None is r r_is =
    absurd (let none : None ≡ Some number = ap number_read is ∙ sym (get_or-map number_read slots slot None) ∙ ap (λ l. number_at l slot) (sym same) ∙ is_newest.has in cc)
newest_read numbers slots same slot number is_newest (Some read) is r r_is =
    let both : Some read.number ≡ Some number = ap number_read is ∙ sym (get_or-map number_read slots slot None) ∙ ap (λ l. number_at l slot) (sym same) ∙ is_newest.has in
    let one : number ≡ read.number = cc in
    subst (λ o. IsNewestRead numbers slots o) (sym r_is) (slot, read, sym is, subst (λ n. IsNewest numbers slot n) one is_newest, refl)

nothing_read : (x : Option ReadSegment) → number_read x ≡ None → x ≡ None
nothing_read None is = refl
nothing_read (Some read) is = absurd cc

pub none_read : (numbers : List (Option ℕ)) (slots : List (Option ReadSegment)) → numbers ≡ map number_read slots → ((slot : ℕ) → number_at numbers slot ≡ None) → IsNewestRead numbers slots None
none_read numbers slots same none slot = nothing_read (read_of slots slot) (sym (get_or-map number_read slots slot None) ∙ ap (λ l. number_at l slot) (sym same) ∙ none slot)

-- the table that was read
pub numbers_read : (slots : List (Option ReadSegment)) → numbers_of (map segment_of slots) ≡ map number_read slots
numbers_read [] = refl
numbers_read (None ∷ slots) = ap (λ (l : List (Option ℕ)). None ∷ l) (numbers_read slots)
numbers_read (Some read ∷ slots) = ap (λ (l : List (Option ℕ)). Some read.number ∷ l) (numbers_read slots)

module _ (at size count : ℕ) (content : List ℕ) (slots : List (Option ReadSegment)) (long : length slots ≡ count) (each : AreRead at size content slots count) where
  slot_read : (slot : ℕ) → slot_at (map segment_of slots) slot ≡ segment_of (read_of slots slot)
  slot_read slot = get_or-map segment_of slots slot None

  holds_read : (slot : ℕ) → slot < count → HoldsSlot (slot_bytes at size content slot) (slot_at (map segment_of slots) slot)
  holds_read slot inside = subst (λ (x : Option Segment). HoldsSlot (slot_bytes at size content slot) x) (sym (slot_read slot)) (each slot inside).0

  -- no table is held where numbers are the same
  pub same_damaged : ¬ NumbersDiffer (map number_read slots) → (table : List (Option Segment)) → length table ≡ count → ¬ HoldsTable at size content table
  same_damaged same table of_count holds =
      let is : table ≡ map segment_of slots = ext_get_or None table (map segment_of slots) (of_count ∙ sym long ∙ sym (length-map slots segment_of)) (λ slot inside.
      one_slot (slot_bytes at size content slot) (slot_at table slot) (slot_at (map segment_of slots) slot) (holds.each slot inside) (holds_read slot (omega (arith, inside, of_count)))) in
      same (subst NumbersDiffer (ap numbers_of is ∙ numbers_read slots) holds.differ)

  knows_read : (numbers : List (Option ℕ)) → numbers ≡ map number_read slots → KnowAreas at size slots count → (newest : Option Place) → IsNewestRead numbers slots newest → KnowsNewest at size (map segment_of slots) newest
  knows_read numbers same areas None none = λ slot. slot_read slot ∙ ap segment_of (none slot)
  knows_read numbers same areas (Some area) (slot, read, is, newest, area_is) =
      let inside : slot < count = omega (arith, number_inside numbers slot read.number newest.has, ap length same, length-map slots number_read, long) in
      let here : KnowsArea (slot_place at size slot) size (Some read) = subst (λ x. KnowsArea (slot_place at size slot) size x) is (areas slot inside) in
      let next : KnowsNext (Some read) = subst KnowsNext is (each slot inside).1 in
      record {
        slot = slot;
        segment = record { number = read.number; bodies = _ };
        has = slot_read slot ∙ ap segment_of is;
        newest = subst (λ (l : List (Option ℕ)). IsNewest l slot read.number) (same ∙ sym (numbers_read slots)) newest;
        begins = ap (λ (p : Place). p.at) area_is ∙ here.0;
        long = ap (λ (p : Place). p.size) area_is ∙ here.1;
        next = ap (λ (p : Place). p.next) area_is ∙ next;
      }

  pub ring_read : (ring : Ring) (newest : Option Place) → ring.at ≡ at → ring.size ≡ size → ring.newest ≡ newest → known_numbers ring ≡ map number_read slots → KnowAreas at size slots count
      → NumbersDiffer (known_numbers ring) → IsNewestRead (known_numbers ring) slots newest → Fits content ring (map segment_of slots)
  ring_read ring newest is_at is_size is_newest numbers areas differ known =
      fits_later at size content ring (map segment_of slots) newest is_at is_size is_newest
      (record {
        each = λ slot inside. holds_read slot (omega (arith, inside, length-map slots segment_of, long));
        differ = subst NumbersDiffer (numbers ∙ sym (numbers_read slots)) differ;
      })
      (numbers ∙ sym (numbers_read slots)) (knows_read (known_numbers ring) numbers areas newest known)

-- a slot that holds nothing that a slot may hold is in no table
pub slot_damaged : (at size count : ℕ) (content : List ℕ) → IsDamaged at size count content → (table : List (Option Segment)) → length table ≡ count → ¬ HoldsTable at size content table
slot_damaged at size count content damaged table of_count holds = damaged.holds_none (slot_at table damaged.slot) (holds.each damaged.slot (omega (arith, damaged.inside, of_count)))

-- the newest segment's area lies in the ring
pub area_in_ring : (at size count : ℕ) (slots : List (Option ReadSegment)) → length slots ≡ count → KnowAreas at size slots count → 9 ≤ size → (numbers : List (Option ℕ)) → numbers ≡ map number_read slots
    → (newest : Option Place) → IsNewestRead numbers slots newest → (area : Place) → newest ≡ Some area → (at ≤ area.at) × (area.at + area.size ≤ at + count * size)
area_in_ring at size count slots long areas low numbers same None none area is = absurd cc
area_in_ring at size count slots long areas low numbers same (Some found) (slot, read, has, newest, area_is) area is =
    let inside : slot < count = omega (arith, number_inside numbers slot read.number newest.has, ap length same, length-map slots number_read, long) in
    let here : KnowsArea (slot_place at size slot) size (Some read) = subst (λ x. KnowsArea (slot_place at size slot) size x) has (areas slot inside) in
    let one : found ≡ area = cc in
    let begins : area.at ≡ at + slot * size + 9 = ap (λ (p : Place). p.at) (sym one ∙ area_is) ∙ here.0 in
    let ends : area.size ≡ size - 9 = ap (λ (p : Place). p.size) (sym one ∙ area_is) ∙ here.1 in
    (omega (arith, begins), omega (arith, begins, ends, low, slot_before slot count size inside))
