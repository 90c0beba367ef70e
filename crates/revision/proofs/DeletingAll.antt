-- The delta that deletes all that stands in a document.
use Rattle.std.proofs.Common.{◌≡◌, ◌⊎◌, ℕ, zero, suc, ◌+◌, ◌<◌, List, [], ◌∷◌, ◌++◌, length, refl, sym, ap, subst, ◌∙◌, ⊎_elim, arith}
use Rattle.delta.specs.Element.{Element}
use Rattle.delta.specs.Operation.{Operation, delete}
use Rattle.delta.specs.Gaps.{End, Gap, Del, front, run, counted, apply, units_below}
use Rattle.delta.specs.Places.{fate_at, inserted_at}
use Rattle.delta.specs.Normal.{past, settled, trim, trimmed, built, nf}
use Rattle.delta.proofs.CallerLemmas.{counted-spelled, nf-built}
use Rattle.document.specs.Outcome.{IsAccepted}
use Rattle.document.specs.Pairs.{IsPairAt}
use Rattle.document.specs.Places.{Cuts}

settled-run : (n : ℕ) → settled (run n Del (End [])) ≡ run n Del (End [])
settled-run zero = refl
settled-run (suc n) = ap (λ g. front [] (past Del g)) (settled-run n) ∙ again n
  where
    again : (n : ℕ) → front [] (past Del (run n Del (End []))) ≡ Gap [] Del (run n Del (End []))
    again zero = refl
    again (suc n) = refl

trimmed-run : (n : ℕ) → trimmed (run n Del (End [])) ≡ run n Del (End [])
trimmed-run zero = refl
trimmed-run (suc n) = ap (λ g. trim [] Del g) (trimmed-run n)

-- counted out it deletes each unit
pub counted-deleting : (n : ℕ) → counted (nf (counted (built ([] ++ delete n ∷ [])))) ≡ run n Del (End [])
counted-deleting n =
    ap counted (nf-built (delete n ∷ []))
    ∙ (counted-spelled (trimmed (settled (run n Del (End []))))
    ∙ (ap trimmed (settled-run n) ∙ trimmed-run n))

deleted : (units : List Element) → apply units (run (length units) Del (End [])) ≡ []
deleted [] = refl
deleted (x ∷ units) = deleted units

spoken : (n : ℕ) → units_below (run n Del (End [])) ≡ n
spoken zero = refl
spoken (suc n) = ap suc (spoken n)

inside : (units : List Element) (i : ℕ) → IsPairAt units i → i + 1 < length units
inside [] i pair = absurd pair
inside (x ∷ []) i pair = absurd pair
inside (x ∷ y ∷ units) zero pair = omega arith
inside (x ∷ y ∷ units) (suc i) pair = omega (arith, inside (y ∷ units) i pair)

fate : (n i : ℕ) → i < n → fate_at (run n Del (End [])) i ≡ Del
fate zero i there = absurd (omega (arith, there))
fate (suc n) zero there = refl
fate (suc n) (suc i) there = fate n i (omega (arith, there))

bare : (n i : ℕ) → inserted_at (run n Del (End [])) i ≡ []
bare zero zero = refl
bare zero (suc i) = refl
bare (suc n) zero = refl
bare (suc n) (suc i) = bare n i

whole : (units : List Element) → ¬ (Cuts units (run (length units) Del (End [])))
whole units cuts =
    ⊎_elim
    (λ fates. fates (fate (length units) cuts.0 (omega (arith, inside units cuts.0 cuts.1)) ∙ sym (fate (length units) (suc cuts.0) (omega (arith, inside units cuts.0 cuts.1)))))
    (λ inserted. inserted (bare (length units) (suc cuts.0)))
    cuts.2

accepted_run : (units : List Element) → IsAccepted units (run (length units) Del (End []))
accepted_run units = (
  omega (arith, spoken (length units)),
  whole units,
  omega (arith, ap length (deleted units)),
)

-- the document takes it, and nothing is left
module _ (units : List Element) (n : ℕ) (all : n ≡ length units) (made : List Operation) (is : made ≡ nf (counted (built ([] ++ delete n ∷ [])))) where
  made-counted : counted made ≡ run (length units) Del (End [])
  made-counted = ap counted is ∙ (counted-deleting n ∙ ap (λ m. run m Del (End [])) all)

  pub all-accepted : IsAccepted units (counted made)
  all-accepted = subst (IsAccepted units) (sym made-counted) (accepted_run units)

  pub all-deleted : apply units (counted made) ≡ []
  all-deleted = ap (apply units) made-counted ∙ deleted units
