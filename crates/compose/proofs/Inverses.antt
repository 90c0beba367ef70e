-- A delta and its inverse.
use Rattle.std.proofs.Common.{◌≡◌, List, [], ◌∷◌, ◌++◌, length, refl, ap, ◌∙◌}
use Rattle.attributes.proofs.CallerLemmas.{changed-reverted}
use Rattle.delta.specs.Element.{Element}
use Rattle.delta.specs.Gaps.{Gaps, End, Gap, Fate, Del, Keep, run, fated, apply, counted}
use Rattle.delta.specs.Operation.{Operation}
use Rattle.delta.specs.Normal.{nf}
use Rattle.delta.proofs.CallerLemmas.{apply-front, apply-nf}
use Rattle.compose.specs.Inverse.{inverse, unit_back}
use Rattle.compose.specs.Laws.{Undone}

-- inserted units are deleted
apply-deleted : (xs : List Element) (d : List Element) (g : Gaps) → apply (xs ++ d) (run (length xs) Del g) ≡ apply d g
apply-deleted [] d g = refl
apply-deleted (x ∷ xs) d g = apply-deleted xs d g

-- one unit comes back
apply-back : (f : Fate) (x : Element) (d : List Element) (g : Gaps) → apply (fated f x ++ d) (unit_back f x g) ≡ x ∷ apply d g
apply-back Del x d g = apply-front d (x ∷ []) g
apply-back (Keep c) x d g = ap (λ a. record x { attributes = a } ∷ apply d g) (changed-reverted x.attributes c)

pub undone : Undone
undone d (End xs) = apply-deleted xs d (End [])
undone [] (Gap xs f g) = apply-deleted xs (apply [] g) (inverse g []) ∙ undone [] g
undone (x ∷ d) (Gap xs f g) =
    apply-deleted xs (fated f x ++ apply d g) (unit_back f x (inverse g d))
    ∙ (apply-back f x (apply d g) (inverse g d) ∙ ap (λ l. x ∷ l) (undone d g))

-- and so does the normal form of the inverse
pub undone_by : (d : List Element) (ops back : List Operation) → back ≡ nf (inverse (counted ops) d) → apply (apply d (counted ops)) (counted back) ≡ d
undone_by d ops back is =
    ap (λ l. apply (apply d (counted ops)) (counted l)) is ∙ (apply-nf (apply d (counted ops)) (inverse (counted ops) d) ∙ undone d (counted ops))
