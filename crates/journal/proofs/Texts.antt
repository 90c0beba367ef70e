-- Reading from the front of bytes: texts and names.
use Rattle.std.proofs.Common.{◌≡◌, ℕ, zero, suc, ◌^◌, ◌<◌, ◌≤◌, Bool, true, Some, List, [], ◌∷◌, ◌++◌, length, get_or, refl, subst, append_assoc, arith}
use Rattle.std.specs.Int.{Width, w16}
use Rattle.std.specs.List.{list_all}
use Rattle.std.specs.Str.{is_utf8}
use Rattle.std.proofs.lemmas.Bool.{and_parts, leb-true}
use Rattle.std.proofs.lemmas.Bool.Decides.{nat_tests}
use Rattle.std.proofs.lemmas.Option.{cond_some, option_and_then_some, same_Some}
use Rattle.std.proofs.lemmas.Str.{IsUtf8-from_ascii, is_utf8-from_IsUtf8}
use Rattle.revision.specs.Name.{is_name_byte, is_name}
use Rattle.journal.specs.Spelling.{number, text16}
use Rattle.journal.specs.steps.Reading.{part_at, number_at, utf8_at, text_at, name_at}
use Rattle.journal.proofs.Numbers.{IsBytes, Takes, Takes-then, IsNumber, number16, part_takes, part_again, number_takes, number_again}

-- ---- texts

module _ (width : Width) (limit : ℕ) (is : IsNumber width limit) where
  pub text_takes : (bytes : List ℕ) (x : List ℕ × List ℕ) → IsBytes bytes → text_at width bytes ≡ Some x → Takes bytes (number width (length x.0) ++ x.0) x.1 × (length x.0 < limit) × (is_utf8 x.0 ≡ true)
  unfolding text_at utf8_at
  text_takes bytes x fit e =
      option_and_then_some _ (number_at width bytes) x e (λ count counted e'.
      option_and_then_some _ (part_at count.0 count.1) x e' (λ part cut e''.
      option_and_then_some (λ (text : List ℕ). Some (text, part.1)) (utf8_at part.0) x e'' (λ text valid made.
      let t = number_takes width limit is bytes count fit counted in
      let u = part_takes count.0 count.1 part t.0.rest_fits cut in
      let g = cond_some (is_utf8 part.0) part.0 text valid in
      let whole : Takes bytes (number width (length part.0) ++ part.0) part.1 × (length part.0 < limit) × (is_utf8 part.0 ≡ true) =
      (rw u.1 (Takes-then t.0 u.0), omega (arith, u.1, t.1), g.0) in
      subst (λ (y : List ℕ × List ℕ). Takes bytes (number width (length y.0) ++ y.0) y.1 × (length y.0 < limit) × (is_utf8 y.0 ≡ true)) (same_Some _ _ made)
      (subst (λ (y : List ℕ). Takes bytes (number width (length y) ++ y) part.1 × (length y < limit) × (is_utf8 y ≡ true)) g.1 whole))))

  pub text_again : (text rest : List ℕ) → length text < limit → is_utf8 text ≡ true → text_at width ((number width (length text) ++ text) ++ rest) ≡ Some (text, rest)
  unfolding text_at utf8_at
  text_again text rest lt valid =
      rw (append_assoc (number width (length text)) text rest, number_again width limit is (length text) (text ++ rest) lt, part_again (length text) text rest refl, valid) refl

-- ---- names

pub is_name_byte_ascii : (b : ℕ) → is_name_byte b ≡ true → b < 128
is_name_byte_ascii b e = grind (arith, nat_tests)

pub is_name_ascii : (text : List ℕ) → list_all is_name_byte text ≡ true → (i : ℕ) → get_or text i 0 < 128
is_name_ascii [] e i = omega arith
is_name_ascii (b ∷ bytes) e zero = is_name_byte_ascii b (and_parts (is_name_byte b) (list_all is_name_byte bytes) e).0
is_name_ascii (b ∷ bytes) e (suc i) = is_name_ascii bytes (and_parts (is_name_byte b) (list_all is_name_byte bytes) e).1 i

pub is_utf8-is_name : (longest : ℕ) (text : List ℕ) → is_name longest text ≡ true → is_utf8 text ≡ true
is_utf8-is_name longest text e = is_utf8-from_IsUtf8 text (IsUtf8-from_ascii text (is_name_ascii text (and_parts _ (list_all is_name_byte text) e).1))

pub is_name-short : (longest : ℕ) (text : List ℕ) → is_name longest text ≡ true → length text ≤ longest
is_name-short longest text e = leb-true _ _ (and_parts _ _ (and_parts _ (list_all is_name_byte text) e).0).1

pub name_takes : (is_valid : List ℕ → Bool) (bytes : List ℕ) (x : List ℕ × List ℕ) → IsBytes bytes → name_at is_valid bytes ≡ Some x → Takes bytes (text16 x.0) x.1 × (is_valid x.0 ≡ true)
unfolding name_at text16
name_takes is_valid bytes x fit e =
    option_and_then_some _ (text_at w16 bytes) x e (λ text found made.
    let t = text_takes w16 (2 ^ 16) number16 bytes text fit found in
    let g = cond_some (is_valid text.0) text x made in
    subst (λ (y : List ℕ × List ℕ). Takes bytes (number w16 (length y.0) ++ y.0) y.1 × (is_valid y.0 ≡ true)) g.1 (t.0, g.0))

pub name_again : (longest : ℕ) (text rest : List ℕ) → longest < 2 ^ 16 → is_name longest text ≡ true → name_at (is_name longest) (text16 text ++ rest) ≡ Some (text, rest)
unfolding name_at text16
name_again longest text rest lt valid =
    rw (text_again w16 (2 ^ 16) number16 text rest (omega (arith, is_name-short longest text valid)) (is_utf8-is_name longest text valid), valid) refl
