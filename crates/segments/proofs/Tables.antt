-- Tables of slots, where one slot changes.
use Rattle.std.proofs.Common.{◌≡◌, inl, inr, ℕ, ◌+◌, ◌*◌, ◌<◌, Option, Some, None, List, length, set, refl, sym, ◌∙◌, subst, arith}
use Rattle.std.proofs.lemmas.Bool.{cases_eq, cases_lt}
use Rattle.std.proofs.lemmas.List.{get_or-set_same, get_or-set_other, get_or_past, length-map, length-set, map-set}
use Rattle.std.proofs.Math.ListN.{get_or-map}
use Rattle.disk.specs.Device.{SameOutside}
use Rattle.disk.proofs.CallerLemmas.{same_outside_wider}
use Rattle.segments.specs.Slot.{Segment, HoldsSlot, number_of}
use Rattle.segments.specs.Numbers.{number_at, NumbersDiffer}
use Rattle.segments.specs.Table.{slot_at, slot_bytes, numbers_of, HoldsTable}
use Rattle.segments.proofs.Places.{other_slot, slot_before}

-- the number of a slot is that of what it holds
pub number_held : (table : List (Option Segment)) (slot : ℕ) → number_at (numbers_of table) slot ≡ number_of (slot_at table slot)
number_held table slot = get_or-map number_of table slot None

pub numbers_set : (table : List (Option Segment)) (k : ℕ) (x : Option Segment) → numbers_of (set table k x) ≡ set (numbers_of table) k (number_of x)
numbers_set table k x = map-set number_of table k x

pub numbers_long : (table : List (Option Segment)) → length (numbers_of table) ≡ length table
numbers_long table = length-map table number_of

-- a slot is nothing where it has no number
pub nothing_held : (x : Option Segment) → number_of x ≡ None → x ≡ None
nothing_held None is = refl
nothing_held (Some segment) is = absurd cc

-- a number is that of a segment
pub segment_held : (x : Option Segment) (n : ℕ) → number_of x ≡ Some n → (segment : Segment) × (x ≡ Some segment) × (segment.number ≡ n)
segment_held None n is = absurd cc
segment_held (Some segment) n is = let same : segment.number ≡ n = cc in (segment, refl, same)

-- what holds something is there
pub slot_there : (table : List (Option Segment)) (k : ℕ) (segment : Segment) → slot_at table k ≡ Some segment → k < length table
slot_there table k segment has = elim (cases_lt k (length table)) [
  | inl inside ↦ inside
  | inr past ↦ absurd (let is : None ≡ Some segment = sym (get_or_past table k None past) ∙ has in cc)
]

module _ (at size k : ℕ) (old new : List ℕ) (table : List (Option Segment)) (holds : HoldsTable at size old table) (same : SameOutside (at + k * size) size old new) where
  -- the slot holds what it held
  pub kept : HoldsSlot (slot_bytes at size new k) (slot_at table k) → HoldsTable at size new table
  kept here = record {
    each = λ slot inside. elim (cases_eq slot k) [
      | inl is ↦ subst (λ n. HoldsSlot (slot_bytes at size new n) (slot_at table n)) (sym is) here
      | inr other ↦ subst (λ (l : List ℕ). HoldsSlot l (slot_at table slot)) (sym (other_slot at size k slot old new same other)) (holds.each slot inside)
    ];
    differ = holds.differ;
  }

  -- it holds something else
  pub changed : (x : Option Segment) → k < length table → HoldsSlot (slot_bytes at size new k) x → NumbersDiffer (numbers_of (set table k x)) → HoldsTable at size new (set table k x)
  changed x there here differ = record {
    each = λ slot inside. elim (cases_eq slot k) [
      | inl is ↦ subst (λ n. HoldsSlot (slot_bytes at size new n) (slot_at (set table k x) n)) (sym is)
          (subst (λ (o : Option Segment). HoldsSlot (slot_bytes at size new k) o) (sym (get_or-set_same table k x None there)) here)
      | inr other ↦
          let less : slot < length table = omega (arith, length-set table k x) in
          subst (λ (o : Option Segment). HoldsSlot (slot_bytes at size new slot) o) (sym (get_or-set_other table k slot x None other))
          (subst (λ (l : List ℕ). HoldsSlot l (slot_at table slot)) (sym (other_slot at size k slot old new same other)) (holds.each slot less))
    ];
    differ = differ;
  }

-- what changes in a slot alone changes among the slots alone
pub within_ring : (at size k count : ℕ) (old new : List ℕ) → k < count → SameOutside (at + k * size) size old new → SameOutside at (count * size) old new
within_ring at size k count old new below same = same_outside_wider at (count * size) (at + k * size) size old new (omega arith) (omega (arith, slot_before k count size below)) same
