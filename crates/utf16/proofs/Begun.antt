-- Code units counted over bytes.
use Rattle.std.proofs.Common.{◌≡◌, ℕ, ◌+◌, ◌-◌, ◌*◌, ◌/◌, ◌%◌, ◌<◌, ◌≤◌, List, [], ◌∷◌, ◌++◌, length, take, drop, get_or, refl, sym, ap, ◌∙◌, ⊎_elim, arith, length-append}
use Rattle.std.proofs.lemmas.Bool.{cases_lt}
use Rattle.std.proofs.lemmas.List.{take-append-drop, length-take-le, take_more}
use Rattle.std.proofs.Math.Seq.{take-add}
use Rattle.std.proofs.lemmas.Str.{encodes-chars}
use Rattle.std.proofs.str.Utf16.{one_unit, two_units}
use Rattle.std.specs.Char.{encode_utf8}
use Rattle.std.specs.Char.Escape.{encode_utf16}
use Rattle.std.specs.Str.{IsUtf8, encode_utf8_all, chars}
use Rattle.utf16.specs.Begun.{begun, begun_in}
use Rattle.utf16.specs.Units.{units_of, units_of_chars}
use Rattle.utf16.proofs.Bytes.{in_one, in_two, in_three, in_four}

pub begun-le : (b : ℕ) → begun b ≤ 2
begun-le b = grind arith

pub begun_in-le : (bs : List ℕ) → begun_in bs ≤ 2 * length bs
begun_in-le [] = omega arith
begun_in-le (b ∷ bs) = omega (arith, begun-le b, begun_in-le bs)

pub begun_in-append : (xs ys : List ℕ) → begun_in (xs ++ ys) ≡ begun_in xs + begun_in ys
begun_in-append [] ys = omega arith
begun_in-append (x ∷ xs) ys = omega (arith, begun_in-append xs ys)

-- of two halves
pub begun_in-halves : (bs : List ℕ) (i : ℕ) → begun_in (take i bs) + begun_in (drop i bs) ≡ begun_in bs
begun_in-halves bs i = sym (begun_in-append (take i bs) (drop i bs)) ∙ ap begun_in (take-append-drop i bs)

-- no more than two for each of the first bytes
pub begun_in-take-le : (bs : List ℕ) (i : ℕ) → i ≤ length bs → begun_in (take i bs) ≤ 2 * i
begun_in-take-le bs i inside = omega (arith, begun_in-le (take i bs), length-take-le i bs inside)

-- one more byte, and so many more
pub begun_in-take : (bs : List ℕ) (i : ℕ) → i < length bs → begun_in (take (i + 1) bs) ≡ begun_in (take i bs) + begun (get_or bs i 0)
begun_in-take bs i inside = omega (arith, ap begun_in (take_more bs i 0 inside), begun_in-append (take i bs) (get_or bs i 0 ∷ []))

pub begun_in-take-add : (bs : List ℕ) (i n : ℕ) → begun_in (take (i + n) bs) ≡ begun_in (take i bs) + begun_in (take (i + n - i) (drop i bs))
begun_in-take-add bs i n =
    let e : i + n - i ≡ n = omega arith in
    rw e (ap begun_in (take-add i n bs) ∙ begun_in-append (take i bs) (take n (drop i bs)))

-- the bytes of a character
begun-four : (n : ℕ) → begun (240 + n) ≡ 2
begun-four n = grind arith

begun-continues : (n : ℕ) → begun (128 + n % 64) ≡ 0
begun-continues n = grind arith

begun_in-four : (a b c d : ℕ) → begun_in ((240 + a) ∷ (128 + b % 64) ∷ (128 + c % 64) ∷ (128 + d % 64) ∷ []) ≡ 2
begun_in-four a b c d = omega (arith, begun-four a, begun-continues b, begun-continues c, begun-continues d)

pub begun_in-encode : (c : ℕ) → begun_in (encode_utf8 c) ≡ length (encode_utf16 c)
begun_in-encode c =
    ⊎_elim
    (λ small. ⊎_elim
    (λ one. rw (in_one c one, one_unit c small) (grind arith))
    (λ more. ⊎_elim
    (λ two. rw (in_two c more two, one_unit c small) (grind arith))
    (λ three. rw (in_three c three small, one_unit c small) (grind arith))
    (cases_lt c 0x800))
    (cases_lt c 0x80))
    (λ large. rw (in_four c large, two_units c large) (begun_in-four (c / 262144) (c / 4096) (c / 64) c))
    (cases_lt c 0x1_0000)

begun_in-chars : (cs : List ℕ) → begun_in (encode_utf8_all cs) ≡ length (units_of_chars cs)
begun_in-chars [] = refl
begun_in-chars (c ∷ cs) =
    omega (arith, begun_in-append (encode_utf8 c) (encode_utf8_all cs), begun_in-encode c, begun_in-chars cs, length-append (encode_utf16 c) (units_of_chars cs))

-- over a text it counts the code units
pub begun_in-text : (text : List ℕ) → IsUtf8 text → begun_in text ≡ length (units_of text)
begun_in-text text valid = ap begun_in (sym (encodes-chars text valid)) ∙ begun_in-chars (chars text)
