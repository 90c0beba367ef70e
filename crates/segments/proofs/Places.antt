-- Bytes that stay where other bytes of a content change.
use Rattle.std.proofs.Common.{◌≡◌, ◌≢◌, inl, inr, ℕ, ◌+◌, ◌-◌, ◌*◌, ◌≤◌, ◌<◌, List, take, drop, get_or, sym, ◌∙◌, ap, arith}
use Rattle.std.proofs.lemmas.Bool.{cases_lt}
use Rattle.std.proofs.lemmas.List.{drop-drop, get_or-take, get_or-drop}
use Rattle.std.proofs.Math.Nat.{mul-le-mul_right}
use Rattle.disk.specs.Device.{SameOutside}
use Rattle.segments.specs.Table.{slot_bytes}
pub use Rattle.disk.proofs.CallerLemmas.{range_before}

-- a slot lies before the end of all of them
pub slot_before : (k count size : ℕ) → k < count → k * size + size ≤ count * size
slot_before k count size below =
    let above : k + 1 ≤ count = omega arith in
    omega (arith, mul-le-mul_right size above)

-- what is behind a place
pub rest_behind : (q p : ℕ) (old new : List ℕ) → q ≤ p → drop q new ≡ drop q old → drop p new ≡ drop p old
rest_behind q p old new from same =
    let whole : q + (p - q) ≡ p = omega arith in
    ap (λ k. drop k new) (sym whole) ∙ sym (drop-drop (p - q) q new) ∙ ap (λ (l : List ℕ). drop (p - q) l) same ∙ drop-drop (p - q) q old ∙ ap (λ k. drop k old) whole

-- a slot's bytes stay where another slot changes
pub other_slot : (at size k s : ℕ) (old new : List ℕ) → SameOutside (at + k * size) size old new → s ≢ k → slot_bytes at size new s ≡ slot_bytes at size old s
other_slot at size k s old new same other = elim (cases_lt s k) [
  | inl before ↦ range_before (at + s * size) size (at + k * size) old new (omega (arith, slot_before s k size before)) same.before
  | inr from ↦
      let behind : k < s = omega (arith, other) in
      ap (λ (l : List ℕ). take size l) (rest_behind (at + k * size + size) (at + s * size) old new (omega (arith, slot_before k s size behind)) same.after)
]

-- the first byte of a slot's bytes is its gate
pub first_byte : (q size : ℕ) (content : List ℕ) → 0 < size → get_or (take size (drop q content)) 0 0 ≡ get_or content q 0
first_byte q size content some = get_or-take size (drop q content) 0 0 some ∙ get_or-drop q content 0 0 ∙ ap (λ k. get_or content k 0) (omega arith)
