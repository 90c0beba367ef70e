-- A text that operations put behind a document.
use Rattle.std.proofs.Common.{◌≡◌, ℕ, true, false, Option, Some, None, List, [], ◌∷◌, ◌++◌, length, get_or, inl, inr, sym, ap, ap₂, ◌∙◌, arith, append-nil}
use Rattle.std.specs.Prelude.{MatchOption, is_some}
use Rattle.std.proofs.lemmas.Bool.{false≢true}
use Rattle.attributes.specs.Attributes.{Attributes}
use Rattle.attributes.specs.Map.{empty}
use Rattle.delta.specs.Element.{letters}
use Rattle.delta.specs.Operation.{Operation, insert_text, retain, base_of, is_plain}
use Rattle.delta.specs.Gaps.{counted, apply}
use Rattle.delta.proofs.CallerLemmas.{effect_of_text, effect_of_retain}
use Rattle.document.specs.steps.Passes.{IsBehind, PutsBehind}
use Rattle.document.proofs.Progress.{kept_same}

-- a list of two, by its places
two_of : (ops : List Operation) (x y : Operation) → length ops ≡ 2 → x ≡ get_or ops 0 x → y ≡ get_or ops 1 y → ops ≡ x ∷ y ∷ []
two_of [] x y two first second = absurd (omega (arith, two))
two_of (a ∷ []) x y two first second = absurd (omega (arith, two))
two_of (a ∷ b ∷ []) x y two first second = ap₂ (λ p q. p ∷ q ∷ []) (sym first) (sym second)
two_of (a ∷ b ∷ c ∷ ops) x y two first second = absurd (omega (arith, two))

-- the second of two, where the first is a plain retain
pub second_of_two : (len : Option ℕ) (ops : List Operation) (x y : Operation) → length ops ≡ 2 → x ≡ get_or ops 0 x → y ≡ get_or ops 1 y
    → MatchOption len (is_plain x ≡ false) (λ n. x ≡ retain n empty) → is_some len ≡ true → IsBehind ops y
second_of_two None ops x y two first second plain some = absurd (false≢true some)
second_of_two (Some n) ops x y two first second plain some =
    (n, inr (two_of ops x y two first second ∙ ap (λ o. o ∷ y ∷ []) plain))

-- what an insert behind a plain retain makes of a document
pub puts_behind : (ops : List Operation) (op : Operation) (us : List ℕ) (a : Attributes) → IsBehind ops op → op ≡ insert_text us a → PutsBehind ops us a
puts_behind ops op us a (n, inl one) is [] same =
    ap (λ l. apply [] (counted l)) (one ∙ ap (λ o. o ∷ []) is) ∙ (effect_of_text [] us a [] ∙ append-nil (letters us a))
puts_behind ops op us a (n, inl one) is (x ∷ d) same = absurd (omega (arith, same, ap base_of (one ∙ ap (λ o. o ∷ []) is)))
puts_behind ops op us a (n, inr two) is d same =
    let e : ops ≡ retain n empty ∷ insert_text us a ∷ [] = two ∙ ap (λ o. retain n empty ∷ o ∷ []) is in
    ap (λ l. apply d (counted l)) e
    ∙ (ap (λ l. apply l (counted (retain n empty ∷ insert_text us a ∷ []))) (sym (append-nil d))
    ∙ (effect_of_retain d [] n empty (insert_text us a ∷ []) (omega (arith, ap base_of e, same))
    ∙ (ap (λ l. l ++ apply [] (counted (insert_text us a ∷ []))) (kept_same d)
    ∙ ap (λ l. d ++ l) (effect_of_text [] us a [] ∙ append-nil (letters us a)))))
