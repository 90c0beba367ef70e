-- Reading from the front of bytes: values.
use Rattle.std.proofs.Common.{◌≡◌, ℕ, zero, suc, ◌^◌, ◌<◌, Bool, true, false, ◌⊎◌, inl, inr, cond, eqb, Option, Some, None, List, [], ◌∷◌, ◌++◌, length, refl, sym, ap, subst, arith, ℤ, SFits}
use Rattle.std.specs.Int.{w32, w64, cast_unsigned, cast_signed}
use Rattle.std.proofs.lemmas.Bool.{eqb-true}
use Rattle.std.proofs.lemmas.Int.{of_z-to_z, to_z-of_z, ints}
use Rattle.std.proofs.lemmas.Option.{cond_some, option_and_then_some, same_Some}
use Rattle.attributes.specs.Scalar.{Scalar, text_scalar, whole_scalar, flag_scalar, IsExact, is_exact, is_exact-Decides}
use Rattle.journal.specs.Spelling.{number, text32}
use Rattle.journal.specs.DeltaSpelling.{value, new_value}
use Rattle.revision.specs.Spellable.{IsValue, IsNewValue}
use Rattle.journal.specs.steps.Reading.{number_at, text_at, byte_at}
use Rattle.journal.specs.steps.DeltaReading.{whole_at, text_value_at, value_behind, value_at, new_value_behind, new_value_at}
use Rattle.journal.proofs.Numbers.{IsBytes, Takes, Takes-then, number32, number64, number_takes, number_again}
use Rattle.journal.proofs.Texts.{text_takes, text_again}

pub byte_takes : (bytes : List ℕ) (x : ℕ × List ℕ) → IsBytes bytes → byte_at bytes ≡ Some x → Takes bytes (x.0 ∷ []) x.1
unfolding byte_at
byte_takes [] x fit e = absurd cc
byte_takes (b ∷ bytes) x fit e =
    subst (λ (y : ℕ × List ℕ). Takes (b ∷ bytes) (y.0 ∷ []) y.1) (same_Some _ _ e) (record { parts = refl; rest_fits = λ i. fit (suc i) })

-- what was read behind a tag is spelled by the tag and what the bytes begin with
pub record ReadBehind {X : Type 0} (spell : X → List ℕ) (IsX : X → Type 0) (tag : ℕ) (bytes : List ℕ) (x : X × List ℕ) : Type 0 where
  pub text : List ℕ
  pub spelled : spell x.0 ≡ tag ∷ text
  pub takes : Takes bytes text x.1
  pub is : IsX x.0

-- the two ways of a test that gives something
pub either_way : {A : Type 0} (b : Bool) (o p : Option A) (x : A) → cond b o p ≡ Some x → ((b ≡ true) × (o ≡ Some x)) ⊎ (p ≡ Some x)
either_way true o p x e = inl (refl, e)
either_way false o p x e = inr e

-- a tag, and what stands behind it
pub with_tag : {X : Type 0} (spell : X → List ℕ) (IsX : X → Type 0) (tag : ℕ) (bytes rest : List ℕ) (x : X × List ℕ) → Takes bytes (tag ∷ []) rest → ReadBehind spell IsX tag rest x → Takes bytes (spell x.0) x.1 × IsX x.0
with_tag spell IsX tag bytes rest x first more =
    (subst (λ (text : List ℕ). Takes bytes text x.1) (sym more.spelled) (Takes-then first more.takes), more.is)

nothing_more : (bytes : List ℕ) → IsBytes bytes → Takes bytes [] bytes
nothing_more bytes fit = record { parts = refl; rest_fits = fit }

-- ---- whole numbers

exact_fits : (n : ℤ) → IsExact n → SFits w64 n
exact_fits n is = omega (arith, ints)

exact_bits : (n : ℤ) → IsExact n → cast_unsigned w64 n < 2 ^ 64
exact_bits n is = omega (arith, ints)

whole_behind : (bytes : List ℕ) (x : Scalar × List ℕ) → IsBytes bytes → whole_at bytes ≡ Some x → ReadBehind value IsValue 3 bytes x
unfolding whole_at value
whole_behind bytes x fit e =
    option_and_then_some _ (number_at w64 bytes) x e (λ bits e1 made.
    let t = number_takes w64 (2 ^ 64) number64 bytes bits fit e1 in
    let z = cast_signed w64 bits.0 in
    let g = cond_some (is_exact z) (whole_scalar z, bits.1) x made in
    let same : cast_unsigned w64 z ≡ bits.0 = of_z-to_z w64 bits.0 t.1 in
    subst (λ (y : Scalar × List ℕ). ReadBehind value IsValue 3 bytes y) g.1
    (record { text = number w64 bits.0; spelled = ap (λ n. 3 ∷ number w64 n) same; takes = t.0; is = (is_exact-Decides z).0 g.0 }))

-- ---- values

text_behind : (bytes : List ℕ) (x : Scalar × List ℕ) → IsBytes bytes → text_value_at bytes ≡ Some x → ReadBehind value IsValue 4 bytes x
unfolding text_value_at value text32
text_behind bytes x fit e =
    option_and_then_some (λ (text : List ℕ × List ℕ). Some (text_scalar text.0, text.1)) (text_at w32 bytes) x e (λ text e1 made.
    let t = text_takes w32 (2 ^ 32) number32 bytes text fit e1 in
    subst (λ (y : Scalar × List ℕ). ReadBehind value IsValue 4 bytes y) (same_Some _ _ made)
    (record { text = number w32 (length text.0) ++ text.0; spelled = refl; takes = t.0; is = (t.1, t.2) }))

pub value_behind_takes : (tag : ℕ) (bytes : List ℕ) (x : Scalar × List ℕ) → IsBytes bytes → value_behind tag bytes ≡ Some x → ReadBehind value IsValue tag bytes x
unfolding value_behind value
value_behind_takes tag bytes x fit e =
    elim (either_way (eqb tag 1) (Some (flag_scalar false, bytes)) _ x e) [
      | inl h ↦ subst (λ (y : Scalar × List ℕ). ReadBehind value IsValue tag bytes y) (same_Some _ _ h.1)
          (record { text = []; spelled = ap (λ n. n ∷ []) (sym (eqb-true tag 1 h.0)); takes = nothing_more bytes fit; is = tt })
      | inr e1 ↦ elim (either_way (eqb tag 2) (Some (flag_scalar true, bytes)) _ x e1) [
        | inl h ↦ subst (λ (y : Scalar × List ℕ). ReadBehind value IsValue tag bytes y) (same_Some _ _ h.1)
            (record { text = []; spelled = ap (λ n. n ∷ []) (sym (eqb-true tag 2 h.0)); takes = nothing_more bytes fit; is = tt })
        | inr e2 ↦ elim (either_way (eqb tag 3) (whole_at bytes) _ x e2) [
          | inl h ↦ subst (λ n. ReadBehind value IsValue n bytes x) (sym (eqb-true tag 3 h.0)) (whole_behind bytes x fit h.1)
          | inr e3 ↦ elim (either_way (eqb tag 4) (text_value_at bytes) None x e3) [
            | inl h ↦ subst (λ n. ReadBehind value IsValue n bytes x) (sym (eqb-true tag 4 h.0)) (text_behind bytes x fit h.1)
            | inr none ↦ absurd cc
          ]
        ]
      ]
    ]

pub value_takes : (bytes : List ℕ) (x : Scalar × List ℕ) → IsBytes bytes → value_at bytes ≡ Some x → Takes bytes (value x.0) x.1 × IsValue x.0
unfolding value_at
value_takes bytes x fit e =
    option_and_then_some _ (byte_at bytes) x e (λ tag e1 e2.
    let t = byte_takes bytes tag fit e1 in
    with_tag value IsValue tag.0 bytes tag.1 x t (value_behind_takes tag.0 tag.1 x t.rest_fits e2))

pub value_again : (v : Scalar) (rest : List ℕ) → IsValue v → value_at (value v ++ rest) ≡ Some (v, rest)
unfolding value_at byte_at value_behind value whole_at text_value_at text32
value_again (flag_scalar false) rest is = refl
value_again (flag_scalar true) rest is = refl
value_again (whole_scalar n) rest is =
    rw (number_again w64 (2 ^ 64) number64 (cast_unsigned w64 n) rest (exact_bits n is), to_z-of_z w64 n (exact_fits n is), (is_exact-Decides n).1 is) refl
value_again (text_scalar text) rest is = rw (text_again w32 (2 ^ 32) number32 text rest is.0 is.1) refl

-- ---- new values

new_value_behind_takes : (tag : ℕ) (bytes : List ℕ) (x : Option Scalar × List ℕ) → IsBytes bytes → new_value_behind tag bytes ≡ Some x → ReadBehind new_value IsNewValue tag bytes x
unfolding new_value_behind new_value
new_value_behind_takes zero bytes x fit e =
    subst (λ (y : Option Scalar × List ℕ). ReadBehind new_value IsNewValue 0 bytes y) (same_Some _ _ e)
    (record { text = []; spelled = refl; takes = nothing_more bytes fit; is = tt })
new_value_behind_takes (suc n) bytes x fit e =
    option_and_then_some (λ (v : Scalar × List ℕ). Some (Some v.0, v.1)) (value_behind (suc n) bytes) x e (λ v e1 made.
    let t = value_behind_takes (suc n) bytes v fit e1 in
    subst (λ (y : Option Scalar × List ℕ). ReadBehind new_value IsNewValue (suc n) bytes y) (same_Some _ _ made)
    (record { text = t.text; spelled = t.spelled; takes = t.takes; is = t.is }))

pub new_value_takes : (bytes : List ℕ) (x : Option Scalar × List ℕ) → IsBytes bytes → new_value_at bytes ≡ Some x → Takes bytes (new_value x.0) x.1 × IsNewValue x.0
unfolding new_value_at
new_value_takes bytes x fit e =
    option_and_then_some _ (byte_at bytes) x e (λ tag e1 e2.
    let t = byte_takes bytes tag fit e1 in
    with_tag new_value IsNewValue tag.0 bytes tag.1 x t (new_value_behind_takes tag.0 tag.1 x t.rest_fits e2))

pub new_value_again : (v : Option Scalar) (rest : List ℕ) → IsNewValue v → new_value_at (new_value v ++ rest) ≡ Some (v, rest)
unfolding new_value_at new_value_behind value_at byte_at value_behind value new_value whole_at text_value_at text32
new_value_again None rest is = refl
new_value_again (Some (flag_scalar false)) rest is = refl
new_value_again (Some (flag_scalar true)) rest is = refl
new_value_again (Some (whole_scalar n)) rest is =
    rw (number_again w64 (2 ^ 64) number64 (cast_unsigned w64 n) rest (exact_bits n is), to_z-of_z w64 n (exact_fits n is), (is_exact-Decides n).1 is) refl
new_value_again (Some (text_scalar text)) rest is = rw (text_again w32 (2 ^ 32) number32 text rest is.0 is.1) refl
