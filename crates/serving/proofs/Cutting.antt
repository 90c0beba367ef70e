-- What was read is cut behind each line.
use Rattle.std.proofs.Common.{◌≡◌, ◌≢◌, ◌∙◌, ◌++◌, ◌+◌, ◌-◌, ◌<◌, ◌≤◌, inl, inr, true, false, ℕ, zero, suc, List, [], ◌∷◌, length, take, drop, slice_index, slice_range, refl, sym, ap, arith, take-take, take-add, drop-drop}
use Rattle.session.specs.Line.{HasNoEnd}
use Rattle.serving.specs.Serving.{IsOfLine}

-- text in front of the first line end, and with it
text_before : (piece : List ℕ) (count : ℕ) → ((i : ℕ) → i < count → slice_index piece i ≢ 10) → HasNoEnd (take count piece)
text_before [] zero inner = tt
text_before [] (suc count) inner = tt
text_before (byte ∷ bytes) zero inner = tt
text_before (byte ∷ bytes) (suc count) inner = (inner 0 (omega arith), text_before bytes count (λ i below. inner (suc i) (omega arith)))

with_end : (piece : List ℕ) (count : ℕ) → count < length piece → slice_index piece count ≡ 10 → take (suc count) piece ≡ take count piece ++ 10 ∷ []
with_end [] count below end = absurd (omega arith)
with_end (byte ∷ bytes) zero below end = ap (λ (b : ℕ). b ∷ []) end
with_end (byte ∷ bytes) (suc count) below end = ap (λ (l : List ℕ). byte ∷ l) (with_end bytes count (omega arith) end)

-- text with its line end, or none
pub of_line : (bytes : List ℕ) (count : ℕ) → ((i : ℕ) → i < count → slice_index bytes i ≢ 10) → count < length bytes → slice_index bytes count ≡ 10
    → IsOfLine (record { bytes = take (count + 1) bytes; is_cut = true })
of_line bytes count inner below end =
    let one : count + 1 ≡ suc count = omega arith in
    inr (take count bytes, text_before bytes count inner, ap (λ (n : ℕ). take n bytes) one ∙ with_end bytes count below end, refl)

pub within_line : (bytes : List ℕ) (count : ℕ) → ((i : ℕ) → i < count → slice_index bytes i ≢ 10) → IsOfLine (record { bytes = take count bytes; is_cut = false })
within_line bytes count inner = inl (text_before bytes count inner, refl)

-- the front of what is left, and the rest of it
pub front_of_left : (bytes : List ℕ) (from count to : ℕ) → from + count ≤ to → take count (slice_range bytes from to) ≡ slice_range bytes from (from + count)
front_of_left bytes from count to within =
    let same : count ≡ (from + count) - from = omega arith in
    take-take count (to - from) (drop from bytes) (omega arith) ∙ ap (λ (n : ℕ). take n (drop from bytes)) same

pub left_parted : (bytes : List ℕ) (from count to : ℕ) → from + count ≤ to
    → slice_range bytes from to ≡ slice_range bytes from (from + count) ++ slice_range bytes (from + count) to
left_parted bytes from count to within =
    let both : to - from ≡ ((from + count) - from) + (to - (from + count)) = omega arith in
    let on : count ≡ (from + count) - from = omega arith in
    ap (λ (n : ℕ). take n (drop from bytes)) both
    ∙ (take-add ((from + count) - from) (to - (from + count)) (drop from bytes)
    ∙ ap (λ (l : List ℕ). slice_range bytes from (from + count) ++ take (to - (from + count)) l)
    (ap (λ (n : ℕ). drop n (drop from bytes)) (sym on) ∙ drop-drop count from bytes))

pub short_take : (count : ℕ) (bytes : List ℕ) → length (take count bytes) ≤ count
short_take zero bytes = omega arith
short_take (suc count) [] = omega arith
short_take (suc count) (byte ∷ bytes) = let less = short_take count bytes in omega (arith, less)
