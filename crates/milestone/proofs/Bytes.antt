-- The bytes of a cell, where the gate is written, and where it is written behind the gate.
use Rattle.std.proofs.Common.{◌≡◌, ◌≢◌, ◌⊎◌, inl, inr, ℕ, ◌+◌, ◌-◌, ◌≤◌, ◌<◌, List, [], ◌∷◌, ◌++◌, length, take, drop, get_or, sym, ◌∙◌, ap, subst, arith}
use Rattle.std.proofs.lemmas.Bool.{cases_eq}
use Rattle.std.proofs.lemmas.List.{drop-take, drop-drop, drop_more, get_or-take, get_or-drop, length-take, length-drop}
use Rattle.std.proofs.Math.Seq.{take-append-add}
use Rattle.disk.specs.Device.{overwritten, SameOutside}
use Rattle.disk.proofs.CallerLemmas.{length_overwritten, drop_overwritten, overwritten_same_outside, same_outside_wider, same_outside_then}
use Rattle.journal.specs.Area.{open_gate, IsGated}
use Rattle.milestone.specs.OneCell.{bytes_at}
pub use Rattle.disk.proofs.CallerLemmas.{range_before}

-- the first byte of a cell is its gate
pub first_byte : (q size : ℕ) (content : List ℕ) → 0 < size → get_or (bytes_at q size content) 0 0 ≡ get_or content q 0
first_byte q size content some = get_or-take size (drop q content) 0 0 some ∙ get_or-drop q content 0 0 ∙ ap (λ k. get_or content k 0) (omega arith)

-- the gate, and what is behind it
pub gate_and_rest : (q size : ℕ) (content : List ℕ) → 0 < size → q + size ≤ length content
    → bytes_at q size content ≡ get_or (bytes_at q size content) 0 0 ∷ drop 1 (bytes_at q size content)
gate_and_rest q size content some within =
    drop_more (bytes_at q size content) 0 0 (omega (arith, length-take size (drop q content), length-drop q content))

-- where the gate alone is written, all behind it stays
pub behind_gate : (q size : ℕ) (old content : List ℕ) → 0 < size → SameOutside q 1 old content → drop 1 (bytes_at q size content) ≡ drop 1 (bytes_at q size old)
behind_gate q size old content some same =
    let one_less : 1 + (size - 1) ≡ size = omega arith in
    let part : (l : List ℕ) → drop 1 (take size (drop q l)) ≡ take (size - 1) (drop (q + 1) l) =
    λ l. ap (λ k. drop 1 (take k (drop q l))) (sym one_less) ∙ drop-take 1 (size - 1) (drop q l) ∙ ap (λ (m : List ℕ). take (size - 1) m) (drop-drop 1 q l) in
    part content ∙ ap (λ (l : List ℕ). take (size - 1) l) same.after ∙ sym (part old)

-- a gate is closed afterwards, or all is unchanged, where it was open
pub gate_written : (q size : ℕ) (old content : List ℕ) → 0 < size → q + size ≤ length old → SameOutside q 1 old content → get_or (bytes_at q size old) 0 0 ≡ open_gate
    → (get_or (bytes_at q size content) 0 0 ≢ open_gate) ⊎ (bytes_at q size content ≡ bytes_at q size old)
gate_written q size old content some within same gate = elim (cases_eq (get_or (bytes_at q size content) 0 0) open_gate) [
  | inl still ↦ inr (
      gate_and_rest q size content some (omega (arith, within, same.same_length))
      ∙ ap (λ (l : List ℕ). get_or (bytes_at q size content) 0 0 ∷ l) (behind_gate q size old content some same)
      ∙ ap (λ g. g ∷ drop 1 (bytes_at q size old)) (still ∙ sym gate)
      ∙ sym (gate_and_rest q size old some within))
  | inr shut ↦ inl shut
]

-- bytes written behind a gate
module _ (q size : ℕ) (bytes old : List ℕ) (fit : 1 + length bytes ≤ size) (within : q + size ≤ length old) where
  abbrev staged : List ℕ
  staged = overwritten old (q + 1) bytes

  -- and behind a gate of this value
  abbrev gated : ℕ → List ℕ
  gated value = overwritten staged q (value ∷ [])

  abbrev left : List ℕ
  left = take (size - (1 + length bytes)) (drop (q + 1 + length bytes) old)

  staged_long : length staged ≡ length old
  staged_long = length_overwritten old (q + 1) bytes (omega arith)

  pub gated_outside : (value : ℕ) → SameOutside q size old (gated value)
  gated_outside value = same_outside_then q size old staged (gated value)
      (same_outside_wider q size (q + 1) (length bytes) old staged (omega arith) (omega arith) (overwritten_same_outside old (q + 1) bytes (omega arith)))
      (same_outside_wider q size q 1 staged (gated value) (omega arith) (omega arith) (overwritten_same_outside staged q (value ∷ []) (omega (arith, staged_long))))

  pub gated_bytes : (value : ℕ) → bytes_at q size (gated value) ≡ (value ∷ bytes) ++ left
  gated_bytes value =
      let sum : size ≡ length (value ∷ bytes) + (size - (1 + length bytes)) = omega arith in
      let back : drop q (gated value) ≡ (value ∷ bytes) ++ drop (q + 1 + length bytes) old =
      drop_overwritten staged q (value ∷ []) (omega (arith, staged_long)) ∙ ap (λ (l : List ℕ). value ∷ l) (drop_overwritten old (q + 1) bytes (omega arith)) in
      ap (λ (l : List ℕ). take size l) back
      ∙ ap (λ k. take k ((value ∷ bytes) ++ drop (q + 1 + length bytes) old)) sum
      ∙ take-append-add (value ∷ bytes) (drop (q + 1 + length bytes) old) (size - (1 + length bytes))

  -- a crash leaves nothing else changed, and the gate still closed, or open before the bytes
  pub gating : get_or (bytes_at q size old) 0 0 ≢ open_gate → (content : List ℕ) → IsGated q bytes old content
      → SameOutside q size old content × ((get_or (bytes_at q size content) 0 0 ≢ open_gate) ⊎ (bytes_at q size content ≡ (open_gate ∷ bytes) ++ left))
  gating closed content (inl same) = (
    same_outside_wider q size (q + 1) (length bytes) old content (omega arith) (omega arith) same,
    inl (λ is. closed (
        first_byte q size old (omega arith)
        ∙ sym (get_or-take (q + 1) old q 0 (omega arith)) ∙ sym (ap (λ (l : List ℕ). get_or l q 0) same.before) ∙ get_or-take (q + 1) content q 0 (omega arith)
        ∙ sym (first_byte q size content (omega arith)) ∙ is)),
  )
  gating closed content (inr (value, is)) =
      subst (λ (l : List ℕ). SameOutside q size old l × ((get_or (bytes_at q size l) 0 0 ≢ open_gate) ⊎ (bytes_at q size l ≡ (open_gate ∷ bytes) ++ left))) (sym is) (
        gated_outside value,
        elim (cases_eq value open_gate) [
          | inl there ↦ inr (gated_bytes value ∙ ap (λ v. (v ∷ bytes) ++ left) there)
          | inr shut ↦ inl (λ gate. shut (sym (ap (λ (l : List ℕ). get_or l 0 0) (gated_bytes value)) ∙ gate))
        ],
      )
