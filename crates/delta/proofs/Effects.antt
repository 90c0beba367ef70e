-- What settling and trimming leave of the effect on a document, and that lists in normal form are told apart by it.
use Rattle.std.proofs.Common.{◌≡◌, true, false, cond, List, [], ◌∷◌, ◌++◌, refl, sym, ap, ◌∙◌}
use Rattle.std.proofs.lemmas.List.{append_assoc}
use Rattle.attributes.specs.Map.{empty}
use Rattle.attributes.specs.Attributes.{Attributes, changed, changed_by, same_changes, same_changes-Decides}
use Rattle.delta.specs.Element.{Element}
use Rattle.delta.specs.Operation.{Operation}
use Rattle.delta.specs.Gaps.{Gaps, End, Gap, Fate, Del, Keep, front, fated, apply, counted}
use Rattle.delta.specs.Normal.{IsNormal, past, settled, trim, trimmed, spelled, nf, built}
use Rattle.delta.proofs.Spellings.{counted-spelled}
use Rattle.delta.proofs.BuiltLists.{nf-same}

-- what is inserted first stands first
pub apply-front : (d : List Element) (xs : List Element) (g : Gaps) → apply d (front xs g) ≡ xs ++ apply d g
apply-front d xs (End ys) = append_assoc xs ys d
apply-front [] xs (Gap ys f g) = append_assoc xs ys (apply [] g)
apply-front (x ∷ d) xs (Gap ys f g) = append_assoc xs ys (fated f x ++ apply d g)

-- a unit's fate before the others
pub apply-past : (d : List Element) (f : Fate) (g : Gaps) → apply d (past f g) ≡ apply d (Gap [] f g)
apply-past d (Keep c) g = refl
apply-past [] Del (End ys) = refl
apply-past [] Del (Gap ys f g) = refl
apply-past (x ∷ d) Del (End ys) = refl
apply-past (x ∷ []) Del (Gap ys f g) = refl
apply-past (x ∷ y ∷ d) Del (Gap ys f g) = refl

-- equal effects of the rest
pub apply-rest : (xs : List Element) (f : Fate) (g h : Gaps) → ((d : List Element) → apply d g ≡ apply d h) → (d : List Element) → apply d (Gap xs f g) ≡ apply d (Gap xs f h)
apply-rest xs f g h same [] = ap (λ l. xs ++ l) (same [])
apply-rest xs f g h same (x ∷ d) = ap (λ l. xs ++ (fated f x ++ l)) (same d)

apply-front_gap : (d : List Element) (xs : List Element) (f : Fate) (g : Gaps) → xs ++ apply d (Gap [] f g) ≡ apply d (Gap xs f g)
apply-front_gap [] xs f g = refl
apply-front_gap (x ∷ d) xs f g = refl

pub apply-settled : (d : List Element) (g : Gaps) → apply d (settled g) ≡ apply d g
apply-settled d (End xs) = refl
apply-settled d (Gap xs f g) =
    apply-front d xs (past f (settled g))
    ∙ (ap (λ l. xs ++ l) (apply-past d f (settled g))
    ∙ (apply-front_gap d xs f (settled g) ∙ apply-rest xs f (settled g) g (λ e. apply-settled e g) d))

-- a change of nothing
pub changed-empty : (a : Attributes) → changed a empty ≡ a
unfolding changed_by
changed-empty a = refl

apply-kept : (d : List Element) (xs : List Element) → apply d (End xs) ≡ apply d (Gap xs (Keep empty) (End []))
apply-kept [] xs = refl
apply-kept (x ∷ d) xs = ap (λ a. xs ++ record x { attributes = a } ∷ d) (sym (changed-empty x.attributes))

apply-trim : (d : List Element) (xs : List Element) (f : Fate) (g : Gaps) → apply d (trim xs f g) ≡ apply d (Gap xs f g)
apply-trim d xs (Keep c) (End []) =
    elim (same_changes c empty) as (λ t. same_changes c empty ≡ t → apply d (cond t (End xs) (Gap xs (Keep c) (End []))) ≡ apply d (Gap xs (Keep c) (End []))) [
      | true ↦ λ e. apply-kept d xs ∙ ap (λ k. apply d (Gap xs (Keep k) (End []))) (sym ((same_changes-Decides c empty).0 e))
      | false ↦ λ e. refl
    ] refl
apply-trim d xs (Keep c) (End (y ∷ ys)) = refl
apply-trim d xs (Keep c) (Gap ys f g) = refl
apply-trim d xs Del g = refl

pub apply-trimmed : (d : List Element) (g : Gaps) → apply d (trimmed g) ≡ apply d g
apply-trimmed d (End xs) = refl
apply-trimmed d (Gap xs f g) = apply-trim d xs f (trimmed g) ∙ apply-rest xs f (trimmed g) g (λ e. apply-trimmed e g) d

pub apply-built : (d : List Element) (ops : List Operation) → apply d (counted (built ops)) ≡ apply d (counted ops)
apply-built d ops = ap (apply d) (counted-spelled (settled (counted ops))) ∙ apply-settled d (counted ops)

pub apply-nf : (d : List Element) (g : Gaps) → apply d (counted (nf g)) ≡ apply d g
apply-nf d g = ap (apply d) (counted-spelled (trimmed (settled g))) ∙ (apply-trimmed d (settled g) ∙ apply-settled d g)

pub same_form : (a b : List Operation) → IsNormal a → IsNormal b → trimmed (settled (counted a)) ≡ trimmed (settled (counted b)) → a ≡ b
same_form a b normal_a normal_b same = sym (nf-same a normal_a) ∙ (ap spelled same ∙ nf-same b normal_b)
