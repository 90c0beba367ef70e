-- States that the parts of a store stand for.
use Rattle.std.proofs.Common.{◌≡◌, ℕ, suc, List, [], ◌∷◌, refl, sym, ◌∙◌}
use Rattle.std.specs.Prelude.{slice_get}
use Rattle.history.specs.Law.{AtMostOne}
use Rattle.std.proofs.lemmas.Option.{same_Some}

-- lists that are equal at each place
pub same_list : {A : Type 0} (xs ys : List A) → ((number : ℕ) → slice_get xs number ≡ slice_get ys number) → xs ≡ ys
same_list [] [] each = refl
same_list [] (y ∷ ys) each = let first = each 0 in absurd (cc)
same_list (x ∷ xs) [] each = let first = each 0 in absurd (cc)
same_list (x ∷ xs) (y ∷ ys) each =
    let first = same_Some x y (each 0) in
    let others = same_list xs ys (λ number. each (suc number)) in
    λ i. first i ∷ others i

pub at_most_one : AtMostOne
at_most_one limits cells entries pick s t one other =
    let same = same_list s.documents t.documents (λ number. (one.each number).is ∙ sym (other.each number).is) in
    let limits_same = one.same_limits ∙ sym other.same_limits in
    λ i. record { limits = limits_same i; documents = same i }
