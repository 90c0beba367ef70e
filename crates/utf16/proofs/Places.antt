-- Places in a text where a character begins, and the code units before and behind them.
use Rattle.std.proofs.Common.{◌≡◌, ℕ, ◌+◌, ◌-◌, ◌<◌, ◌≤◌, Bool, true, false, List, [], ◌∷◌, ◌++◌, length, take, drop, get_or, refl, sym, ap, subst, ◌∙◌, ⊎_elim, arith, length-append, length-drop, get_or-drop, add-zero}
use Rattle.std.proofs.lemmas.Bool.{and_parts, cases_lt}
use Rattle.std.proofs.lemmas.List.{get_or-append-add, take-append-drop, length-take-le}
use Rattle.std.proofs.lemmas.Str.{IsUtf8-take, IsUtf8-drop, chars_past_char, encodes-chars, scalars-chars, length-encode, len_utf8_bounds}
use Rattle.std.proofs.str.Utf16.{one_unit}
use Rattle.std.specs.Char.{IsScalar, encode_utf8}
use Rattle.std.specs.Char.Escape.{encode_utf16}
use Rattle.std.specs.Str.{IsUtf8, chars, encode_utf8_all, IsCharBoundary}
use Rattle.utf16.proofs.Begun.{begun_in-encode, begun_in-text, begun_in-take, begun-le}
use Rattle.utf16.proofs.CodeUnits.{units_of-append, units_of-halves, first_not_low, pair_of-large, length-units_of-le}
use Rattle.utf16.specs.Begun.{begun, begun_in, continues}
use Rattle.utf16.specs.Units.{units_of, units_of_chars, IsHigh, IsLow, IsInPair}

-- a character begins where no byte continues one
pub boundary_of : (text : List ℕ) (i : ℕ) → i < length text → continues (get_or text i 0) ≡ false → IsCharBoundary text i
boundary_of text i inside begins = (omega arith, λ _ from. grind arith)

-- the bytes before a boundary count the code units there
pub units_before : (text : List ℕ) (i : ℕ) → IsUtf8 text → IsCharBoundary text i → begun_in (take i text) ≡ length (units_of (take i text))
units_before text i valid boundary = begun_in-text (take i text) (IsUtf8-take text i valid boundary)

-- the code units before and behind
units_of-parts : (text : List ℕ) (i : ℕ) → IsUtf8 text → IsCharBoundary text i → units_of text ≡ units_of (take i text) ++ units_of (drop i text)
units_of-parts text i valid boundary =
    ap units_of (sym (take-append-drop i text)) ∙ units_of-append (take i text) (drop i text) (IsUtf8-take text i valid boundary)

units_of-behind : (text : List ℕ) (i k : ℕ) → IsUtf8 text → IsCharBoundary text i
    → get_or (units_of text) (length (units_of (take i text)) + k) 0 ≡ get_or (units_of (drop i text)) k 0
units_of-behind text i k valid boundary =
    ap (λ us. get_or us (length (units_of (take i text)) + k) 0) (units_of-parts text i valid boundary)
    ∙ get_or-append-add (units_of (take i text)) (units_of (drop i text)) k 0

-- no pair is parted there
whole_at : (text : List ℕ) (i : ℕ) → IsUtf8 text → IsCharBoundary text i → ¬ (IsInPair (units_of text) (length (units_of (take i text))))
whole_at text i valid boundary pair =
    let rest = drop i text in
    let here : get_or (units_of text) (length (units_of (take i text))) 0 ≡ get_or (units_of rest) 0 0 =
    ap (λ n. get_or (units_of text) n 0) (sym (add-zero (length (units_of (take i text))))) ∙ units_of-behind text i 0 valid boundary in
    first_not_low (chars rest) (scalars-chars rest (IsUtf8-drop text i valid boundary)) (subst IsLow here pair.2)

-- the two halves of a text there
pub record AreHalves (text : List ℕ) (bytes at : ℕ) : Type 0 where
  pub front : units_of (take bytes text) ≡ take at (units_of text)
  pub back : units_of (drop bytes text) ≡ drop at (units_of text)
  pub inside : at ≤ length (units_of text)
  pub whole : ¬ (IsInPair (units_of text) at)

pub halves_at : (text : List ℕ) (bytes at : ℕ) → IsUtf8 text → IsCharBoundary text bytes → length (units_of (take bytes text)) ≡ at → AreHalves text bytes at
halves_at text bytes at valid boundary here =
    let halves = units_of-halves text (take bytes text) (drop bytes text) (IsUtf8-take text bytes valid boundary) (sym (take-append-drop bytes text)) in
    record {
      front = halves.0 ∙ ap (λ n. take n (units_of text)) here;
      back = halves.1 ∙ ap (λ n. drop n (units_of text)) here;
      inside = omega (arith, here, ap length (units_of-parts text bytes valid boundary), length-append (units_of (take bytes text)) (units_of (drop bytes text)));
      whole = subst (λ n. ¬ (IsInPair (units_of text) n)) here (whole_at text bytes valid boundary);
    }

-- the character that begins there
first_of : (rest : List ℕ) (cs : List ℕ) → encode_utf8_all cs ≡ rest → 0 < length rest → (c : ℕ) × (after : List ℕ) × (rest ≡ encode_utf8 c ++ after)
first_of rest [] is some = absurd (omega (arith, ap length is))
first_of rest (c ∷ cs) is some = (c, encode_utf8_all cs, sym is)

first_scalar : (rest after : List ℕ) (c : ℕ) → IsUtf8 rest → rest ≡ encode_utf8 c ++ after → IsScalar c
first_scalar rest after c valid begins =
    (and_parts _ _ (ap (λ cs. Rattle.std.specs.Str.all_scalars cs) (sym (chars_past_char rest after c valid begins)) ∙ scalars-chars rest valid)).0

begun-first : (xs after : List ℕ) → 0 < length xs → begun (get_or (xs ++ after) 0 0) ≤ begun_in xs
begun-first [] after some = absurd (omega arith)
begun-first (x ∷ xs) after some = omega arith

-- a character whose first byte counts two is no single unit
large_of : (c : ℕ) (after : List ℕ) → begun (get_or (encode_utf8 c ++ after) 0 0) ≡ 2 → 0x1_0000 ≤ c
large_of c after two =
    ⊎_elim
    (λ small. absurd (omega (arith, two, begun-first (encode_utf8 c) after (omega (arith, length-encode c, (len_utf8_bounds c).0)), begun_in-encode c, ap length (one_unit c small))))
    (λ large. large)
    (cases_lt c 0x1_0000)

-- behind its first unit a pair is parted
parted_at : (text : List ℕ) (i : ℕ) → IsUtf8 text → IsCharBoundary text i → i < length text → begun (get_or text i 0) ≡ 2
    → IsInPair (units_of text) (length (units_of (take i text)) + 1)
parted_at text i valid boundary inside two =
    let rest = drop i text in
    let rest_valid = IsUtf8-drop text i valid boundary in
    let found = first_of rest (chars rest) (encodes-chars rest rest_valid) (omega (arith, length-drop i text)) in
    let c = found.0 in
    let after = found.1 in
    let before = length (units_of (take i text)) in
    let first : get_or text i 0 ≡ get_or (encode_utf8 c ++ after) 0 0 =
    ap (λ n. get_or text n 0) (sym (add-zero i)) ∙ (sym (get_or-drop i text 0 0) ∙ ap (λ l. get_or l 0 0) found.2) in
    let large : 0x1_0000 ≤ c = large_of c after (ap begun (sym first) ∙ two) in
    let pair = pair_of-large c (units_of after) (first_scalar rest after c rest_valid found.2) large in
    let start : units_of rest ≡ encode_utf16 c ++ units_of after = ap units_of_chars (chars_past_char rest after c rest_valid found.2) in
    let high : get_or (units_of text) (before + 1 - 1) 0 ≡ get_or (encode_utf16 c ++ units_of after) 0 0 =
    ap (λ n. get_or (units_of text) n 0) (omega arith) ∙ (units_of-behind text i 0 valid boundary ∙ ap (λ us. get_or us 0 0) start) in
    let low : get_or (units_of text) (before + 1) 0 ≡ get_or (encode_utf16 c ++ units_of after) 1 0 =
    units_of-behind text i 1 valid boundary ∙ ap (λ us. get_or us 1 0) start in
    (omega arith, subst IsHigh (sym high) pair.0, subst IsLow (sym low) pair.1)

-- the bytes so far begin characters of so many code units; where these pass the place, it lies in a pair
pub record IsCounted (text : List ℕ) (bytes units at : ℕ) : Type 0 where
  pub inside : bytes ≤ length text
  pub units_are : units ≡ begun_in (take bytes text)
  pub in_pair : at < units → IsInPair (units_of text) at

in_pair_after : (text : List ℕ) (bytes units at : ℕ) → IsUtf8 text → bytes < length text → IsCounted text bytes units at
    → (continues (get_or text bytes 0) ≡ false → units < at) → (b : Bool) → continues (get_or text bytes 0) ≡ b
    → at < units + begun (get_or text bytes 0) → IsInPair (units_of text) at
in_pair_after text bytes units at valid inside counted before true continued past =
    let none : begun (get_or text bytes 0) ≡ 0 = rw continued refl in
    counted.in_pair (omega arith)
in_pair_after text bytes units at valid inside counted before false begins past =
    let boundary = boundary_of text bytes inside begins in
    let more = begun-le (get_or text bytes 0) in
    let earlier = before begins in
    let here : length (units_of (take bytes text)) + 1 ≡ at = omega (arith, counted.units_are, units_before text bytes valid boundary) in
    subst (IsInPair (units_of text)) here (parted_at text bytes valid boundary inside (omega arith))

-- one more byte, where it begins no character at the place or past it
pub IsCounted-more : (text : List ℕ) (bytes units at : ℕ) → IsUtf8 text → bytes < length text → IsCounted text bytes units at
    → (continues (get_or text bytes 0) ≡ false → units < at) → IsCounted text (bytes + 1) (units + begun (get_or text bytes 0)) at
IsCounted-more text bytes units at valid inside counted before = record {
  inside = omega arith;
  units_are = omega (arith, counted.units_are, begun_in-take text bytes inside);
  in_pair = λ past. in_pair_after text bytes units at valid inside counted before _ refl past;
}

-- a text of as many code units as bytes has one for each
pub counted_before : (text : List ℕ) (at : ℕ) → IsUtf8 text → IsCharBoundary text at → length (units_of text) ≡ length text → length (units_of (take at text)) ≡ at
counted_before text at valid boundary same =
    let front = IsUtf8-take text at valid boundary in
    let back = IsUtf8-drop text at valid boundary in
    omega (
      arith,
      same,
      boundary.0,
      ap length (units_of-parts text at valid boundary),
      length-append (units_of (take at text)) (units_of (drop at text)),
      length-take-le at text boundary.0,
      length-drop at text,
      length-units_of-le (take at text) front,
      length-units_of-le (drop at text) back,
    )
