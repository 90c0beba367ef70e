-- A content holds one table at most.
use Rattle.std.proofs.Common.{◌≡◌, ℕ, Option, Some, None, List, length, refl, sym, ◌∙◌, ap, arith}
use Rattle.std.specs.Int.{w64, from_le_bytes}
use Rattle.std.proofs.lemmas.Nat.{from_le_bytes-to_le_bytes_8}
use Rattle.std.proofs.lemmas.List.{ext_get_or}
use Rattle.journal.proofs.CallerLemmas.{one_list}
use Rattle.segments.specs.Slot.{Segment, HoldsSegment, HoldsSlot}
use Rattle.segments.specs.Table.{slot_at, slot_bytes, HoldsTable}

-- so does a slot
one_segment : (bytes : List ℕ) (a b : Segment) → HoldsSegment bytes a → HoldsSegment bytes b → a ≡ b
one_segment bytes a b holds_a holds_b =
    let number : a.number ≡ b.number =
    sym (from_le_bytes-to_le_bytes_8 a.number holds_a.in_range) ∙ ap (λ (l : List ℕ). from_le_bytes w64 l) (sym holds_a.number ∙ holds_b.number) ∙ from_le_bytes-to_le_bytes_8 b.number holds_b.in_range in
    let bodies : a.bodies ≡ b.bodies = one_list a.bodies b.bodies _ holds_a.bodies holds_b.bodies in
    λ i. record { number = number i; bodies = bodies i }

pub one_slot : (bytes : List ℕ) (a b : Option Segment) → HoldsSlot bytes a → HoldsSlot bytes b → a ≡ b
one_slot bytes None None holds_a holds_b = refl
one_slot bytes None (Some b) holds_a holds_b = absurd (holds_a holds_b.gate)
one_slot bytes (Some a) None holds_a holds_b = absurd (holds_b holds_a.gate)
one_slot bytes (Some a) (Some b) holds_a holds_b = ap (λ (s : Segment). Some s) (one_segment bytes a b holds_a holds_b)

pub one_table : (at size : ℕ) (content : List ℕ) (a b : List (Option Segment)) → length a ≡ length b → HoldsTable at size content a → HoldsTable at size content b → a ≡ b
one_table at size content a b long holds_a holds_b = ext_get_or None a b long (λ slot inside.
    one_slot (slot_bytes at size content slot) (slot_at a slot) (slot_at b slot) (holds_a.each slot inside) (holds_b.each slot (omega (arith, inside, long))))
