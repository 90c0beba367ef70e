-- Prefixes of one list.
use Rattle.std.proofs.Common.{◌≡◌, ◌↔◌, ℕ, ◌≤◌, ◌<◌, nat_le, nat_eq, eq-eqb, eqb-true, Bool, true, false, MatchBool, List, [], ◌∷◌, ◌++◌, length, refl, ap, sym, ◌∙◌, arith, append_assoc}
use Rattle.std.proofs.lemmas.Bool.Decides.{nat_tests}
use mathlib.Core.List.{IsPrefix}

-- each list begins with itself
pub prefix_self : {A : Type 0} (xs : List A) → IsPrefix xs xs
prefix_self [] = ([], refl)
prefix_self (x ∷ xs) = (let r = prefix_self xs in r.0, ap (λ ys. x ∷ ys) (prefix_self xs).1)

-- a prefix of a prefix
pub prefix_trans : {A : Type 0} (xs ys zs : List A) → IsPrefix xs ys → IsPrefix ys zs → IsPrefix xs zs
prefix_trans xs ys zs p q = (p.0 ++ q.0, sym (append_assoc xs p.0 q.0) ∙ (ap (λ w. w ++ q.0) p.1 ∙ q.1))

-- of two prefixes of one list the shorter begins the longer
pub prefix_shorter : {A : Type 0} (xs ys zs : List A) → IsPrefix xs zs → IsPrefix ys zs → length xs ≤ length ys → IsPrefix xs ys
prefix_shorter [] ys zs p q le = (ys, refl)
prefix_shorter (x ∷ xs) [] zs p q le = absurd (omega arith)
prefix_shorter (x ∷ xs) (y ∷ ys) [] p q le = absurd (cc (p.1))
prefix_shorter (x ∷ xs) (y ∷ ys) (z ∷ zs) p q le =
    let heads : x ≡ y = cc (p.1, q.1) in
    let rest = prefix_shorter xs ys zs (p.0, cc (p.1)) (q.0, cc (q.1)) (omega arith) in
    (rest.0, cc (heads, rest.1))

-- a prefix as long as the whole is the whole
pub prefix_whole : {A : Type 0} (xs ys : List A) → IsPrefix xs ys → length ys ≤ length xs → xs ≡ ys
prefix_whole [] [] p le = refl
prefix_whole [] (y ∷ ys) p le = absurd (omega arith)
prefix_whole (x ∷ xs) [] p le = absurd (cc (p.1))
prefix_whole (x ∷ xs) (y ∷ ys) p le =
    let rest = prefix_whole xs ys (p.0, cc (p.1)) (omega arith) in cc (p.1, rest)

begins_as : {A : Type 0} (xs ys zs : List A) (m n : ℕ) → m ≡ length xs → n ≡ length ys → IsPrefix xs zs → IsPrefix ys zs
    → (b : Bool) → nat_le m n ≡ b → MatchBool b (IsPrefix xs ys) (IsPrefix ys xs × (length ys < length xs))
begins_as xs ys zs m n first second p q true is = let le : m ≤ n = grind (is, arith, nat_tests) in prefix_shorter xs ys zs p q (omega (arith, le, first, second))
begins_as xs ys zs m n first second p q false is =
    let less : n < m = grind (is, arith, nat_tests) in
    (prefix_shorter ys xs zs q p (omega (arith, less, first, second)), omega (arith, less, first, second))

-- the lengths tell which of two prefixes of one list begins the other
pub begins_by : {A : Type 0} (xs ys zs : List A) (m n : ℕ) → m ≡ length xs → n ≡ length ys → IsPrefix xs zs → IsPrefix ys zs
    → MatchBool (nat_le m n) (IsPrefix xs ys) (IsPrefix ys xs × (length ys < length xs))
begins_by xs ys zs m n first second p q = begins_as xs ys zs m n first second p q (nat_le m n) refl

-- equal lengths tell that two prefixes of one list are the same
pub same_by : {A : Type 0} (xs ys zs : List A) (m n : ℕ) → m ≡ length xs → n ≡ length ys → IsPrefix xs zs → IsPrefix ys zs → (nat_eq m n ≡ true) ↔ (xs ≡ ys)
same_by xs ys zs m n first second p q = (
  λ e. let same : m ≡ n = eqb-true m n e in
      prefix_whole xs ys (prefix_shorter xs ys zs p q (omega (arith, same, first, second))) (omega (arith, same, first, second)),
  λ same. eq-eqb m n (first ∙ ap length same ∙ sym second),
)
