-- Code units of characters and of texts: their number, an append, a split, and back to the text.
use Rattle.std.proofs.Common.{◌≡◌, ℕ, ◌+◌, ◌-◌, ◌/◌, ◌%◌, ◌<◌, ◌≤◌, true, List, [], ◌∷◌, ◌++◌, length, take, drop, map, get_or, Some, sym, ap, subst, ◌∙◌, ⊎_elim, arith, length-append}
use Rattle.std.proofs.Math.Seq.{take-append_seam, drop-append_seam}
use Rattle.std.proofs.lemmas.Bool.{cases_lt, and_parts, le-leb, lt-ltb, le-ltb, leb-true, ltb-true}
use Rattle.std.proofs.lemmas.Grind.{flat_map-append}
use Rattle.std.proofs.lemmas.Str.{chars-append, encodes-chars, scalars-chars, length-encode, len_utf8_bounds, utf16_chars-nil, utf16_chars_lone, utf16_chars_pair}
use Rattle.std.proofs.str.Utf16.{one_unit, two_units, lone_unit_char_low, lone_unit_char_high, IsPair}
use Rattle.std.specs.Char.{IsScalar, encode_utf8}
use Rattle.std.specs.Char.Escape.{encode_utf16}
use Rattle.std.specs.Char.Utf16.{utf16_chars, utf16_lossy_chars, lone_unit_char, surrogate_pair_char}
use Rattle.std.specs.Option.{unwrap_or}
use Rattle.std.specs.Str.{IsUtf8, chars, encode_utf8_all, all_scalars}
use Rattle.utf16.specs.Units.{units_of, units_of_chars, utf8_of, IsHigh, IsLow}
use Rattle.utf16.specs.Laws.{UnitsOfAppend, UnitsOfSplit, TextOfUnits, SameUnits}
use lib.Utf8.{scalar_cases}

pub units_of-append : UnitsOfAppend
units_of-append a b valid = ap units_of_chars (chars-append a b valid) ∙ flat_map-append encode_utf16 (chars a) (chars b)

pub units_of-halves : UnitsOfSplit
units_of-halves text a b valid parts =
    let e : units_of text ≡ units_of a ++ units_of b = ap units_of parts ∙ units_of-append a b valid in (
      sym (ap (take (length (units_of a))) e ∙ take-append_seam (units_of a) (units_of b)),
      sym (ap (drop (length (units_of a))) e ∙ drop-append_seam (units_of a) (units_of b)),
    )

-- the two units of a character above U+FFFF
high_of : ℕ → ℕ
high_of c = 0xD800 + (c - 0x1_0000) / 0x400

low_of : ℕ → ℕ
low_of c = 0xDC00 + (c - 0x1_0000) % 0x400

below_last : (c : ℕ) → IsScalar c → c < 0x11_0000
below_last c valid = ⊎_elim (λ h. omega arith) (λ h. omega arith) (scalar_cases c valid)

pair_of : (c : ℕ) → IsScalar c → 0x1_0000 ≤ c → IsPair (high_of c) (low_of c)
unfolding high_of low_of
pair_of c valid large =
    let last = below_last c valid in
    (omega arith, omega arith, omega arith, omega arith)

char_of_pair : (c : ℕ) → 0x1_0000 ≤ c → surrogate_pair_char (high_of c) (low_of c) ≡ c
unfolding high_of low_of
char_of_pair c large = omega arith

-- a scalar value below U+10000 is no surrogate
lone : (c : ℕ) → IsScalar c → lone_unit_char c ≡ Some c
lone c valid = ⊎_elim (λ h. lone_unit_char_low c h) (λ h. lone_unit_char_high c h.0) (scalar_cases c valid)

unpaired : (c v : ℕ) → IsScalar c → ¬ (IsPair c v)
unpaired c v valid pair = ⊎_elim (λ h. absurd (omega arith)) (λ h. absurd (omega arith)) (scalar_cases c valid)

-- one character in front, in code units and back
utf16_chars-unit : (c : ℕ) (us : List ℕ) → IsScalar c → utf16_chars (encode_utf16 c ++ us) ≡ Some c ∷ utf16_chars us
unfolding high_of low_of
utf16_chars-unit c us valid =
    ⊎_elim
    (λ small. ap (λ xs. utf16_chars (xs ++ us)) (one_unit c small)
    ∙ (utf16_chars_lone c us (unpaired c (get_or us 0 0) valid) ∙ ap (λ x. x ∷ utf16_chars us) (lone c valid)))
    (λ large. ap (λ xs. utf16_chars (xs ++ us)) (two_units c large)
    ∙ (utf16_chars_pair (high_of c) (low_of c) us (pair_of c valid large)
    ∙ ap (λ x. Some x ∷ utf16_chars us) (char_of_pair c large)))
    (cases_lt c 0x1_0000)

utf16_lossy_chars-units : (cs : List ℕ) → all_scalars cs ≡ true → utf16_lossy_chars (units_of_chars cs) ≡ cs
utf16_lossy_chars-units [] valid = ap (map (λ o. unwrap_or o 0xFFFD)) utf16_chars-nil
utf16_lossy_chars-units (c ∷ cs) valid =
    let parts = and_parts _ _ valid in
    ap (map (λ o. unwrap_or o 0xFFFD)) (utf16_chars-unit c (units_of_chars cs) parts.0)
    ∙ ap (λ xs. c ∷ xs) (utf16_lossy_chars-units cs parts.1)

pub utf8_of-units_of : TextOfUnits
utf8_of-units_of text valid =
    ap encode_utf8_all (utf16_lossy_chars-units (chars text) (scalars-chars text valid)) ∙ encodes-chars text valid

pub same_units : SameUnits
same_units a b valid_a valid_b same = sym (utf8_of-units_of a valid_a) ∙ (ap utf8_of same ∙ utf8_of-units_of b valid_b)

-- no character has more code units than bytes
length-units-le : (c : ℕ) → length (encode_utf16 c) ≤ length (encode_utf8 c)
length-units-le c =
    ⊎_elim
    (λ small. rw (one_unit c small, length-encode c) (len_utf8_bounds c).0)
    (λ large. rw (two_units c large, length-encode c, le-ltb c 0x80 (omega arith), le-ltb c 0x800 (omega arith), le-ltb c 0x1_0000 large) (omega arith))
    (cases_lt c 0x1_0000)

length-units_of_chars-le : (cs : List ℕ) → length (units_of_chars cs) ≤ length (encode_utf8_all cs)
length-units_of_chars-le [] = omega arith
length-units_of_chars-le (c ∷ cs) =
    omega (arith, length-append (encode_utf16 c) (units_of_chars cs), length-append (encode_utf8 c) (encode_utf8_all cs), length-units-le c, length-units_of_chars-le cs)

pub length-units_of-le : (text : List ℕ) → IsUtf8 text → length (units_of text) ≤ length text
length-units_of-le text valid = subst (λ t. length (units_of text) ≤ length t) (encodes-chars text valid) (length-units_of_chars-le (chars text))

-- the ranges of the two kinds of surrogates
high_from : (u : ℕ) → 0xD800 ≤ u → u < 0xDC00 → IsHigh u
high_from u from below = rw (le-leb 0xD800 u from, lt-ltb u 0xDC00 below)

low_from : (u : ℕ) → 0xDC00 ≤ u → u < 0xE000 → IsLow u
low_from u from below = rw (le-leb 0xDC00 u from, lt-ltb u 0xE000 below)

low_range : (u : ℕ) → IsLow u → (0xDC00 ≤ u) × (u < 0xE000)
low_range u low = let parts = and_parts _ _ low in (leb-true 0xDC00 u parts.0, ltb-true u 0xE000 parts.1)

pub low_not_zero : ¬ (IsLow 0)
low_not_zero low = absurd (omega (arith, (low_range 0 low).0))

-- the two units of a character above U+FFFF stand in this order
pub pair_of-large : (c : ℕ) (us : List ℕ) → IsScalar c → 0x1_0000 ≤ c → IsHigh (get_or (encode_utf16 c ++ us) 0 0) × IsLow (get_or (encode_utf16 c ++ us) 1 0)
unfolding high_of low_of
pair_of-large c us valid large =
    let pair = pair_of c valid large in
    subst (λ xs. IsHigh (get_or (xs ++ us) 0 0) × IsLow (get_or (xs ++ us) 1 0)) (sym (two_units c large)) (high_from (high_of c) pair.0 pair.1, low_from (low_of c) pair.2 pair.3)

-- the first unit of a character is no low one
first_unit : (c : ℕ) (us : List ℕ) → IsScalar c → ¬ (IsLow (get_or (encode_utf16 c ++ us) 0 0))
unfolding high_of low_of
first_unit c us valid low =
    ⊎_elim
    (λ small. let range = low_range c (subst (λ xs. IsLow (get_or (xs ++ us) 0 0)) (one_unit c small) low) in
    ⊎_elim (λ h. absurd (omega arith)) (λ h. absurd (omega arith)) (scalar_cases c valid))
    (λ large. let pair = pair_of c valid large in
    let range = low_range (high_of c) (subst (λ xs. IsLow (get_or (xs ++ us) 0 0)) (two_units c large) low) in
    absurd (omega arith))
    (cases_lt c 0x1_0000)

-- the first unit of a text is no low one
pub first_not_low : (cs : List ℕ) → all_scalars cs ≡ true → ¬ (IsLow (get_or (units_of_chars cs) 0 0))
first_not_low [] valid low = low_not_zero low
first_not_low (c ∷ cs) valid low = first_unit c (units_of_chars cs) (and_parts _ _ valid).0 low
