-- Numbers and texts by themselves: what is read of them, and that they have one spelling.
use Rattle.std.proofs.Common.{◌≡◌, ℕ, ◌^◌, ◌<◌, ◌≤◌, true, None, Some, List, leb, ◌++◌, length, take, drop, refl, sym, ap, ◌∙◌, inl, inr, append_assoc}
use Rattle.std.specs.Int.{Width, w16, w32, w64, byte_len, from_le_bytes}
use Rattle.std.specs.Str.{is_utf8}
use Rattle.std.proofs.lemmas.Bool.{leb-true, le-leb, cases_lt}
use Rattle.std.proofs.lemmas.Option.{some_pair_parts, none-some, cond_some, option_and_then_some}
use Rattle.std.proofs.lemmas.List.{take_at, drop_at}
use Rattle.journal.specs.Spelling.{number, text16}
use Rattle.journal.specs.steps.Reading.{part_at, number_at, text_at}
use Rattle.journal.proofs.Numbers.{IsBytes, IsNumber, number16, number32, number64, number_again}
use Rattle.journal.proofs.Texts.{text_takes, text_again}

-- what is read has as many bytes as the width, and where nothing is read there are fewer
pub some_long : (width : Width) (bytes : List ℕ) (x : ℕ × List ℕ) → number_at width bytes ≡ Some x → byte_len width ≤ length bytes
unfolding number_at part_at
some_long width bytes x e =
    option_and_then_some (λ (p : List ℕ × List ℕ). Some (from_le_bytes width p.0, p.1)) (part_at (byte_len width) bytes) x e (λ p found made.
    leb-true _ _ (cond_some (leb (byte_len width) (length bytes)) (take (byte_len width) bytes, drop (byte_len width) bytes) p found).0)

pub none_short : (width : Width) (bytes : List ℕ) → number_at width bytes ≡ None → length bytes < byte_len width
unfolding number_at part_at
none_short width bytes e =
    elim (cases_lt (length bytes) (byte_len width)) [
      | inl lt ↦ lt
      | inr le ↦ absurd (none-some (from_le_bytes width (take (byte_len width) bytes), drop (byte_len width) bytes) (sym e ∙ rw (le-leb _ _ le) refl))
    ]

pub text16_takes : (bytes : List ℕ) (x : List ℕ × List ℕ) → IsBytes bytes → text_at w16 bytes ≡ Some x → (length x.0 < 2 ^ 16) × (bytes ≡ text16 x.0 ++ x.1)
unfolding text16
text16_takes bytes x fit e =
    let t = text_takes w16 (2 ^ 16) number16 bytes x fit e in
    (t.1, t.0.parts)

pub text16_none : (bytes text rest : List ℕ) → text_at w16 bytes ≡ None → length text < 2 ^ 16 → is_utf8 text ≡ true → bytes ≡ text16 text ++ rest → ⊥
unfolding text16
text16_none bytes text rest nothing short valid spelled =
    none-some (text, rest) (sym nothing ∙ ap (text_at w16) spelled ∙ text_again w16 (2 ^ 16) number16 text rest short valid)

number_same : (width : Width) (limit : ℕ) (is : IsNumber width limit) (m n : ℕ) (x y : List ℕ) → m < limit → n < limit
    → number width m ++ x ≡ number width n ++ y → (m ≡ n) × (x ≡ y)
number_same width limit is m n x y m_fits n_fits same =
    some_pair_parts m n x y (sym (number_again width limit is m x m_fits) ∙ ap (number_at width) same ∙ number_again width limit is n y n_fits)

pub one_number32_spelling : (m n : ℕ) (x y : List ℕ) → m < 2 ^ 32 → n < 2 ^ 32 → number w32 m ++ x ≡ number w32 n ++ y → (m ≡ n) × (x ≡ y)
one_number32_spelling = number_same w32 (2 ^ 32) number32

pub one_number64_spelling : (m n : ℕ) (x y : List ℕ) → m < 2 ^ 64 → n < 2 ^ 64 → number w64 m ++ x ≡ number w64 n ++ y → (m ≡ n) × (x ≡ y)
one_number64_spelling = number_same w64 (2 ^ 64) number64

pub one_text_spelling : (a b x y : List ℕ) → length a < 2 ^ 16 → length b < 2 ^ 16 → text16 a ++ x ≡ text16 b ++ y → (a ≡ b) × (x ≡ y)
unfolding text16
one_text_spelling a b x y a_short b_short same =
    let grouped : number w16 (length a) ++ (a ++ x) ≡ number w16 (length b) ++ (b ++ y) =
    sym (append_assoc (number w16 (length a)) a x) ∙ same ∙ append_assoc (number w16 (length b)) b y in
    let lengths = number_same w16 (2 ^ 16) number16 (length a) (length b) (a ++ x) (b ++ y) a_short b_short grouped in (
      sym (take_at a x (length a) refl) ∙ ap (λ (l : List ℕ). take (length a) l) lengths.1 ∙ take_at b y (length a) (sym lengths.0),
      sym (drop_at a x (length a) refl) ∙ ap (λ (l : List ℕ). drop (length a) l) lengths.1 ∙ drop_at b y (length a) (sym lengths.0),
    )
