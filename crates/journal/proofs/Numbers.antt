-- Reading from the front of bytes: what is read is spelled so, and what is spelled so is read again. Numbers.
use Rattle.std.proofs.Common.{◌≡◌, ℕ, ◌+◌, ◌^◌, ◌<◌, ◌&&◌, nat_le, nat_lt, leb, eqb, Some, None, List, ◌++◌, length, get_or, take, drop, refl, sym, ap, subst, ◌∙◌, append_assoc, arith, inl, inr, cond, true}
use Rattle.std.specs.Int.{Width, w16, w32, w64, byte_len, from_le_bytes}
use Rattle.std.proofs.lemmas.Bool.{and_parts, cases_lt, leb-true, le-leb, eqb-true, eq-eqb}
use Rattle.std.proofs.lemmas.Option.{cond_some, option_and_then_some, same_Some}
use Rattle.std.proofs.lemmas.List.{take_at, drop_at, take-append-drop, length-append, length-take, get_or-drop, get_or-take, get_or_past}
use Rattle.std.proofs.lemmas.Nat.{le_bytes_2, le_bytes_4, le_bytes_8, from_le_bytes-to_le_bytes_2, from_le_bytes-to_le_bytes_4, from_le_bytes-to_le_bytes_8}
use Rattle.journal.specs.Spelling.{number}
use Rattle.journal.specs.steps.Reading.{part_at, number_at, fixed_at, within_at}

abbrev pub IsBytes : List ℕ → Type 0
IsBytes bytes = (i : ℕ) → get_or bytes i 0 < 256

IsBytes-drop : (n : ℕ) (bytes : List ℕ) → IsBytes bytes → IsBytes (drop n bytes)
IsBytes-drop n bytes fit i = rw get_or-drop (fit (n + i))

IsBytes-take : (n : ℕ) (bytes : List ℕ) → IsBytes bytes → IsBytes (take n bytes)
IsBytes-take n bytes fit i =
    elim (cases_lt i n) [
      | inl lt ↦ rw (get_or-take n bytes i 0 lt) (fit i)
      | inr le ↦ rw (get_or_past (take n bytes) i 0 (omega (arith, length-take n bytes))) (omega arith)
    ]

-- the bytes begin with this text, and the rest are bytes too
pub record Takes (bytes text rest : List ℕ) : Type 0 where
  pub parts : bytes ≡ text ++ rest
  pub rest_fits : IsBytes rest

pub Takes-then : {bytes text rest next after : List ℕ} → Takes bytes text rest → Takes rest next after → Takes bytes (text ++ next) after
Takes-then {bytes} {text} {rest} {next} {after} first second = record {
  parts = first.parts ∙ ap (λ (x : List ℕ). text ++ x) second.parts ∙ sym (append_assoc text next after);
  rest_fits = second.rest_fits;
}

-- ---- parts

pub part_takes : (count : ℕ) (bytes : List ℕ) (x : List ℕ × List ℕ) → IsBytes bytes → part_at count bytes ≡ Some x → Takes bytes x.0 x.1 × (length x.0 ≡ count) × IsBytes x.0
unfolding part_at
part_takes count bytes x fit e =
    let g = cond_some (leb count (length bytes)) (take count bytes, drop count bytes) x e in
    let enough = leb-true _ _ g.0 in
    subst (λ (y : List ℕ × List ℕ). Takes bytes y.0 y.1 × (length y.0 ≡ count) × IsBytes y.0) g.1
    (record { parts = sym (take-append-drop count bytes); rest_fits = IsBytes-drop count bytes fit }, omega (arith, length-take count bytes), IsBytes-take count bytes fit)

pub part_again : (count : ℕ) (text rest : List ℕ) → length text ≡ count → part_at count (text ++ rest) ≡ Some (text, rest)
unfolding part_at
part_again count text rest len =
    let enough : leb count (length (text ++ rest)) ≡ true = le-leb _ _ (omega (arith, length-append text rest)) in
    rw (enough, take_at text rest count len, drop_at text rest count len) refl

-- ---- numbers

pub record IsNumber (width : Width) (limit : ℕ) : Type 0 where
  pub len : (n : ℕ) → length (number width n) ≡ byte_len width
  pub back : (bytes : List ℕ) → length bytes ≡ byte_len width → IsBytes bytes → number width (from_le_bytes width bytes) ≡ bytes
  pub again : (n : ℕ) → n < limit → from_le_bytes width (number width n) ≡ n
  pub below : (bytes : List ℕ) → IsBytes bytes → from_le_bytes width bytes < limit

pub number16 : IsNumber w16 (2 ^ 16)
unfolding number
number16 = record {
  len = λ n. refl;
  back = λ bytes len fit. le_bytes_2 bytes _ len fit refl;
  again = λ n lt. from_le_bytes-to_le_bytes_2 n lt;
  below = λ bytes fit. omega (arith, fit 0, fit 1);
}

pub number32 : IsNumber w32 (2 ^ 32)
unfolding number
number32 = record {
  len = λ n. refl;
  back = λ bytes len fit. le_bytes_4 bytes _ len fit refl;
  again = λ n lt. from_le_bytes-to_le_bytes_4 n lt;
  below = λ bytes fit. omega (arith, fit 0, fit 1, fit 2, fit 3);
}

pub number64 : IsNumber w64 (2 ^ 64)
unfolding number
number64 = record {
  len = λ n. refl;
  back = λ bytes len fit. le_bytes_8 bytes _ len fit refl;
  again = λ n lt. from_le_bytes-to_le_bytes_8 n lt;
  below = λ bytes fit. omega (arith, fit 0, fit 1, fit 2, fit 3, fit 4, fit 5, fit 6, fit 7);
}

module _ (width : Width) (limit : ℕ) (is : IsNumber width limit) where
  pub number_takes : (bytes : List ℕ) (x : ℕ × List ℕ) → IsBytes bytes → number_at width bytes ≡ Some x → Takes bytes (number width x.0) x.1 × (x.0 < limit)
  unfolding number_at
  number_takes bytes x fit e =
      option_and_then_some (λ (p : List ℕ × List ℕ). Some (from_le_bytes width p.0, p.1)) (part_at (byte_len width) bytes) x e (λ p found made.
      let t = part_takes (byte_len width) bytes p fit found in
      let front = is.back p.0 t.1 t.2 in
      subst (λ (y : ℕ × List ℕ). Takes bytes (number width y.0) y.1 × (y.0 < limit)) (same_Some _ _ made)
      (record { parts = rw front t.0.parts; rest_fits = t.0.rest_fits }, is.below p.0 t.2))

  pub number_again : (n : ℕ) (rest : List ℕ) → n < limit → number_at width (number width n ++ rest) ≡ Some (n, rest)
  unfolding number_at
  number_again n rest lt = rw (part_again (byte_len width) (number width n) rest (is.len n), is.again n lt) refl

  pub fixed_takes : (n : ℕ) (bytes rest : List ℕ) → IsBytes bytes → fixed_at width n bytes ≡ Some rest → Takes bytes (number width n) rest
  unfolding fixed_at
  fixed_takes n bytes rest fit e =
      option_and_then_some (λ (x : ℕ × List ℕ). cond (eqb x.0 n) (Some x.1) None) (number_at width bytes) rest e (λ x found made.
      let t = number_takes bytes x fit found in
      let g = cond_some (eqb x.0 n) x.1 rest made in
      subst (λ (m : ℕ). Takes bytes (number width m) rest) (eqb-true _ _ g.0) (subst (λ (r : List ℕ). Takes bytes (number width x.0) r) g.1 t.0))

  pub fixed_again : (n : ℕ) (rest : List ℕ) → n < limit → fixed_at width n (number width n ++ rest) ≡ Some rest
  unfolding fixed_at
  fixed_again n rest lt = rw (number_again n rest lt, eq-eqb n n refl) refl

-- ---- numbers within bounds

pub within_takes : (low high : ℕ) (bytes : List ℕ) (x : ℕ × List ℕ) → IsBytes bytes → within_at w64 low high bytes ≡ Some x
    → Takes bytes (number w64 x.0) x.1 × ((nat_le low x.0 ≡ true) × (nat_lt x.0 high ≡ true))
unfolding within_at
within_takes low high bytes x fit e =
    option_and_then_some (λ (n : ℕ × List ℕ). cond (nat_le low n.0 && nat_lt n.0 high) (Some n) None) (number_at w64 bytes) x e (λ n found made.
    let t = number_takes w64 (2 ^ 64) number64 bytes n fit found in
    let g = cond_some (nat_le low n.0 && nat_lt n.0 high) n x made in
    subst (λ (y : ℕ × List ℕ). Takes bytes (number w64 y.0) y.1 × ((nat_le low y.0 ≡ true) × (nat_lt y.0 high ≡ true))) g.1
    (t.0, and_parts (nat_le low n.0) (nat_lt n.0 high) g.0))

pub within_again : (low high n : ℕ) (rest : List ℕ) → n < 2 ^ 64 → nat_le low n ≡ true → nat_lt n high ≡ true → within_at w64 low high (number w64 n ++ rest) ≡ Some (n, rest)
unfolding within_at
within_again low high n rest lt above below = rw (number_again w64 (2 ^ 64) number64 n rest lt, above, below) refl
