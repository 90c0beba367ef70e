-- The values of attributes and embeds.
use Rattle.std.specs.Prelude.{◌≡◌, ℕ, ℤ, pos, negsuc, ◌<ℤ◌, int_lt, ◌^◌, ◌-◌, ◌&&◌, T, Bool, true, false, List, refl}
use Rattle.std.specs.Bool.{Decides}
use mathlib.Core.Bool.{beq}
use Rattle.std.specs.Cmp.{signed_Decides, booleans_Decides}
use Rattle.std.specs.Coded.{Coded, code_by, coded⊎, coded_list, coded_ℕ, coded_ℤ, coded_bool}
use Rattle.std.specs.Cmp.Lexicographic.{bytes_decides}
use Rattle.std.specs.Int.Signed.{lt_z_yes}
use Rattle.std.specs.Ordering.{int_eq}
use Rattle.std.specs.Str.{bytes_eq}
use Rattle.std.proofs.Common.{◌⊎◌, inl, inr, ap, subst, sym}
use Rattle.std.proofs.lemmas.Bool.{and_parts, and_from, false≢true}

-- a text by its bytes of UTF-8, a whole number, or true or false
pub data Scalar : Type 0 where
  text_scalar : List ℕ → Scalar
  whole_scalar : ℤ → Scalar
  flag_scalar : Bool → Scalar

-- a whole number of magnitude below 2^53, as every JSON reader keeps it (RFC 8259, 6)
abbrev pub IsExact : ℤ → Type 0
IsExact n = (negsuc (2 ^ 53 - 1) <ℤ n) × (n <ℤ pos (2 ^ 53))

-- and its test
abbrev pub is_exact : ℤ → Bool
is_exact n = int_lt (negsuc (2 ^ 53 - 1)) n && int_lt n (pos (2 ^ 53))

from_T : (b : Bool) → T b → b ≡ true
from_T true h = refl
from_T false h = absurd h

pub is_exact-Decides : (n : ℤ) → Decides (is_exact n) (IsExact n)
is_exact-Decides n = (
  λ e. let parts = and_parts (int_lt (negsuc (2 ^ 53 - 1)) n) (int_lt n (pos (2 ^ 53))) e in
      (lt_z_yes (subst T (sym parts.0) tt), lt_z_yes (subst T (sym parts.1) tt)),
  λ is. and_from (int_lt (negsuc (2 ^ 53 - 1)) n) (int_lt n (pos (2 ^ 53))) (from_T _ is.0.lt) (from_T _ is.1.lt),
)

-- what every value keeps: its whole number is exact
abbrev pub IsExactScalar : Scalar → Type 0
IsExactScalar (whole_scalar n) = IsExact n
IsExactScalar _ = Unit {0}

-- the same value
abbrev pub same_scalar : Scalar → Scalar → Bool
same_scalar (text_scalar a) (text_scalar b) = bytes_eq a b
same_scalar (whole_scalar m) (whole_scalar n) = int_eq m n
same_scalar (flag_scalar a) (flag_scalar b) = beq a b
same_scalar _ _ = false

-- how a value is told from every other: as a text, or else a whole number, or else a flag
abbrev as_sum : Scalar → List ℕ ⊎ (ℤ ⊎ Bool)
as_sum (text_scalar a) = inl a
as_sum (whole_scalar n) = inr (inl n)
as_sum (flag_scalar b) = inr (inr b)

abbrev of_sum : List ℕ ⊎ (ℤ ⊎ Bool) → Scalar
of_sum (inl a) = text_scalar a
of_sum (inr (inl n)) = whole_scalar n
of_sum (inr (inr b)) = flag_scalar b

pub of_sum-as_sum : (s : Scalar) → of_sum (as_sum s) ≡ s
of_sum-as_sum (text_scalar a) = refl
of_sum-as_sum (whole_scalar n) = refl
of_sum-as_sum (flag_scalar b) = refl

abbrev pub scalar_code : Coded Scalar
scalar_code = code_by (List ℕ ⊎ (ℤ ⊎ Bool)) (coded⊎ (coded_list coded_ℕ) (coded⊎ coded_ℤ coded_bool)) as_sum of_sum of_sum-as_sum

pub same_scalar-Decides : (a b : Scalar) → Decides (same_scalar a b) (a ≡ b)
same_scalar-Decides (text_scalar a) (text_scalar b) =
    (λ e. ap text_scalar ((bytes_decides a b).0 e), λ e. (bytes_decides a b).1 cc)
same_scalar-Decides (whole_scalar m) (whole_scalar n) =
    (λ e. ap whole_scalar ((signed_Decides m n).0 e), λ e. (signed_Decides m n).1 cc)
same_scalar-Decides (flag_scalar a) (flag_scalar b) =
    (λ e. ap flag_scalar ((booleans_Decides a b).0 e), λ e. (booleans_Decides a b).1 cc)
same_scalar-Decides (text_scalar a) (whole_scalar n) = (λ e. absurd (false≢true e), λ e. cc)
same_scalar-Decides (text_scalar a) (flag_scalar b) = (λ e. absurd (false≢true e), λ e. cc)
same_scalar-Decides (whole_scalar m) (text_scalar b) = (λ e. absurd (false≢true e), λ e. cc)
same_scalar-Decides (whole_scalar m) (flag_scalar b) = (λ e. absurd (false≢true e), λ e. cc)
same_scalar-Decides (flag_scalar a) (text_scalar b) = (λ e. absurd (false≢true e), λ e. cc)
same_scalar-Decides (flag_scalar a) (whole_scalar n) = (λ e. absurd (false≢true e), λ e. cc)
