-- What a slot holds after the writes of a call.
use Rattle.std.proofs.Common.{◌≡◌, ◌≢◌, ◌⊎◌, inl, inr, ℕ, ◌+◌, ◌-◌, ◌≤◌, ◌<◌, ◌^◌, Some, None, List, [], ◌∷◌, ◌++◌, length, take, drop, get_or, refl, sym, ◌∙◌, ap, subst, arith}
use Rattle.std.specs.Int.{w64, to_le_bytes}
use Rattle.std.proofs.lemmas.Bool.{cases_eq}
use Rattle.std.proofs.lemmas.List.{take_at, drop_at, take-take, drop-take, drop-drop, get_or-take}
use Rattle.std.proofs.Math.Seq.{take-append-add}
use Rattle.disk.specs.Device.{overwritten, SameOutside}
use Rattle.disk.proofs.CallerLemmas.{length_overwritten, drop_overwritten, overwritten_same_outside, same_outside_wider, same_outside_then}
use Rattle.journal.specs.Area.{open_gate, HoldsBodies, IsGated}
use Rattle.segments.specs.Slot.{Segment, HoldsSegment, HoldsSlot, empty_segment}
use Rattle.segments.proofs.Places.{first_byte, range_before}

-- what is written behind the gate of a slot that is opened
abbrev pub head_of : ℕ → List ℕ
head_of number = to_le_bytes w64 number ++ 0 ∷ []

pub head_long : (number : ℕ) → length (head_of number) ≡ 9
head_long number = refl

-- bytes that begin so hold a segment without bodies
pub holds_empty : (number : ℕ) (rest : List ℕ) → 1 ≤ number → number < 2 ^ 64 → HoldsSegment ((open_gate ∷ head_of number) ++ rest) (empty_segment number)
holds_empty number rest from_one in_range = record {
  gate = refl;
  number = take_at (to_le_bytes w64 number) (0 ∷ rest) 8 refl;
  from_one = from_one;
  in_range = in_range;
  bodies = record { gate = 0; behind = rest; split = drop_at (open_gate ∷ to_le_bytes w64 number) (0 ∷ rest) 9 refl; closed = λ is. absurd (omega arith); each = tt };
}

module _ (q size number : ℕ) (old : List ℕ) (large : 256 ≤ size) (within : q + size ≤ length old) where
  abbrev staged : List ℕ
  staged = overwritten old (q + 1) (head_of number)

  -- the head behind a gate of any value
  abbrev headed : ℕ → List ℕ
  headed value = overwritten staged q (value ∷ [])

  staged_long : length staged ≡ length old
  staged_long = length_overwritten old (q + 1) (head_of number) (omega (arith, head_long number))

  headed_outside : (value : ℕ) → SameOutside q size old (headed value)
  headed_outside value = same_outside_then q size old staged (headed value)
      (same_outside_wider q size (q + 1) (length (head_of number)) old staged (omega arith) (omega (arith, head_long number)) (overwritten_same_outside old (q + 1) (head_of number) (omega (arith, head_long number))))
      (same_outside_wider q size q 1 staged (headed value) (omega arith) (omega arith) (overwritten_same_outside staged q (value ∷ []) (omega (arith, staged_long))))

  headed_back : (value : ℕ) → drop q (headed value) ≡ (value ∷ head_of number) ++ drop (q + 1 + length (head_of number)) old
  headed_back value =
      drop_overwritten staged q (value ∷ []) (omega (arith, staged_long))
      ∙ ap (λ (l : List ℕ). value ∷ l) (drop_overwritten old (q + 1) (head_of number) (omega (arith, head_long number)))

  headed_bytes : (value : ℕ) → take size (drop q (headed value)) ≡ (value ∷ head_of number) ++ take (size - 10) (drop (q + 1 + length (head_of number)) old)
  headed_bytes value =
      let sum : size ≡ length (value ∷ head_of number) + (size - 10) = omega (arith, head_long number) in
      ap (λ (l : List ℕ). take size l) (headed_back value)
      ∙ ap (λ k. take k ((value ∷ head_of number) ++ drop (q + 1 + length (head_of number)) old)) sum
      ∙ take-append-add (value ∷ head_of number) (drop (q + 1 + length (head_of number)) old) (size - 10)

  headed_gate : (value : ℕ) → get_or (take size (drop q (headed value))) 0 0 ≡ value
  headed_gate value = ap (λ (l : List ℕ). get_or l 0 0) (headed_bytes value)

  -- what the slot holds after the writes
  pub opened_slot : 1 ≤ number → number < 2 ^ 64 → HoldsSegment (take size (drop q (headed open_gate))) (empty_segment number)
  opened_slot from_one in_range =
      subst (λ (l : List ℕ). HoldsSegment l (empty_segment number)) (sym (headed_bytes open_gate)) (holds_empty number (take (size - 10) (drop (q + 1 + length (head_of number)) old)) from_one in_range)

  pub opened_outside : SameOutside q size old (headed open_gate)
  opened_outside = headed_outside open_gate

  -- at any moment of them: nothing, as before, or the new segment
  pub opening_slot : 1 ≤ number → number < 2 ^ 64 → get_or (take size (drop q old)) 0 0 ≢ open_gate → (content : List ℕ) → IsGated q (head_of number) old content
      → SameOutside q size old content × (HoldsSlot (take size (drop q content)) None ⊎ HoldsSlot (take size (drop q content)) (Some (empty_segment number)))
  opening_slot from_one in_range closed content (inl same) = (
    same_outside_wider q size (q + 1) (length (head_of number)) old content (omega arith) (omega (arith, head_long number)) same,
    inl (λ is. closed (
        first_byte q size old (omega arith)
        ∙ sym (get_or-take (q + 1) old q 0 (omega arith)) ∙ sym (ap (λ (l : List ℕ). get_or l q 0) same.before) ∙ get_or-take (q + 1) content q 0 (omega arith)
        ∙ sym (first_byte q size content (omega arith)) ∙ is)),
  )
  opening_slot from_one in_range closed content (inr (value, is)) =
      subst (λ (l : List ℕ). SameOutside q size old l × (HoldsSlot (take size (drop q l)) None ⊎ HoldsSlot (take size (drop q l)) (Some (empty_segment number)))) (sym is) (
        headed_outside value,
        elim (cases_eq value open_gate) [
          | inl open_there ↦ inr (subst (λ v. HoldsSegment (take size (drop q (headed v))) (empty_segment number)) (sym open_there) (opened_slot from_one in_range))
          | inr shut ↦ inl (λ gate. shut (sym (headed_gate value) ∙ gate))
        ],
      )

-- a slot's gate alone is written
pub gate_written : (q size : ℕ) (old content : List ℕ) (segment : Segment) → 256 ≤ size → SameOutside q 1 old content → HoldsSegment (take size (drop q old)) segment
    → HoldsSlot (take size (drop q content)) None ⊎ HoldsSlot (take size (drop q content)) (Some segment)
gate_written q size old content segment large same holds =
    let one_less : 1 + (size - 1) ≡ size = omega arith in
    let part : (l : List ℕ) → drop 1 (take size (drop q l)) ≡ take (size - 1) (drop (q + 1) l) =
    λ l. ap (λ k. drop 1 (take k (drop q l))) (sym one_less) ∙ drop-take 1 (size - 1) (drop q l) ∙ ap (λ (m : List ℕ). take (size - 1) m) (drop-drop 1 q l) in
    let behind : drop 1 (take size (drop q content)) ≡ drop 1 (take size (drop q old)) =
    part content ∙ ap (λ (l : List ℕ). take (size - 1) l) same.after ∙ sym (part old) in
    elim (cases_eq (get_or (take size (drop q content)) 0 0) open_gate) [
      | inl gate ↦ inr (record {
        gate = gate;
        number = ap (λ (l : List ℕ). take 8 l) behind ∙ holds.number;
        from_one = holds.from_one;
        in_range = holds.in_range;
        bodies = subst (HoldsBodies segment.bodies)
            (sym (drop-drop 8 1 (take size (drop q old))) ∙ sym (ap (λ (l : List ℕ). drop 8 l) behind) ∙ drop-drop 8 1 (take size (drop q content))) holds.bodies;
      })
      | inr shut ↦ inl shut
    ]

-- a slot's area, as its bytes have it
pub area_part : (q size : ℕ) (content : List ℕ) → 256 ≤ size → take (size - 9) (drop (q + 9) content) ≡ drop 9 (take size (drop q content))
area_part q size content large =
    let whole : 9 + (size - 9) ≡ size = omega arith in
    ap (λ (l : List ℕ). take (size - 9) l) (sym (drop-drop 9 q content)) ∙ sym (drop-take 9 (size - 9) (drop q content)) ∙ ap (λ k. drop 9 (take k (drop q content))) whole

-- a segment stays when its area alone changes
pub area_written : (q size : ℕ) (old content : List ℕ) (segment : Segment) (bodies : List (List ℕ)) → 256 ≤ size → SameOutside (q + 9) (size - 9) old content
    → HoldsSegment (take size (drop q old)) segment → HoldsBodies bodies (take (size - 9) (drop (q + 9) content)) → HoldsSegment (take size (drop q content)) (record segment { bodies = bodies })
area_written q size old content segment bodies large same holds there =
    let head : take 9 (drop q content) ≡ take 9 (drop q old) = range_before q 9 (q + 9) old content (omega arith) same.before in
    let first : (l : List ℕ) → take 9 (take size (drop q l)) ≡ take 9 (drop q l) = λ l. take-take 9 size (drop q l) (omega arith) in
    let heads : take 9 (take size (drop q content)) ≡ take 9 (take size (drop q old)) = first content ∙ head ∙ sym (first old) in
    let number : (l : List ℕ) → take 8 (drop 1 l) ≡ drop 1 (take 9 l) = λ l. sym (drop-take 1 8 l) in
    record {
      gate =
          sym (get_or-take 9 (take size (drop q content)) 0 0 (omega arith)) ∙ ap (λ (l : List ℕ). get_or l 0 0) heads
          ∙ get_or-take 9 (take size (drop q old)) 0 0 (omega arith) ∙ holds.gate;
      number = number (take size (drop q content)) ∙ ap (λ (l : List ℕ). drop 1 l) heads ∙ sym (number (take size (drop q old))) ∙ holds.number;
      from_one = holds.from_one;
      in_range = holds.in_range;
      bodies = subst (HoldsBodies bodies) (area_part q size content large) there;
    }
