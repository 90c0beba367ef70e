-- Documents that are cut one after the other.
use Rattle.std.proofs.Common.{◌≡◌, ◌⊎◌, inl, inr, ℕ, zero, suc, ◌<◌, ◌^◌, Some, List, [], ◌∷◌, ◌++◌, length, refl, sym, ◌∙◌, ap, subst}
use Rattle.std.specs.Prelude.{slice_get}
use Rattle.revision.specs.State.{DocumentRecord}
use Rattle.history.specs.Cell.{Cell}
use Rattle.milestone.specs.CellSpelling.{IsCell}
use Rattle.migration.specs.Migrated.{IsCutTo, AreSpelled}
pub use Rattle.revision.proofs.CallerLemmas.{record_at_place}
pub use Rattle.std.proofs.lemmas.Option.{same_Some as some_is}

-- the first of some documents are cut
abbrev pub AreCutTo : List DocumentRecord → List Cell → Type 0
AreCutTo documents start = (number : ℕ) (document : DocumentRecord) (cell : Cell) → slice_get documents number ≡ Some document → slice_get start number ≡ Some cell
    → IsCutTo document cell

pub get-more : {A : Type 0} (xs : List A) (x : A) (i : ℕ) (y : A) → slice_get (xs ++ x ∷ []) i ≡ Some y → (slice_get xs i ≡ Some y) ⊎ ((i ≡ length xs) × (x ≡ y))
get-more [] x zero y is = inr (refl, some_is x y is)
get-more [] x (suc i) y is = absurd (cc)
get-more (z ∷ xs) x zero y is = inl is
get-more (z ∷ xs) x (suc i) y is = elim (get-more xs x i y is) [
  | inl there ↦ inl there
  | inr here ↦ inr (ap (λ n. suc n) here.0, here.1)
]

pub cut_more : (documents : List DocumentRecord) (start : List Cell) (document : DocumentRecord) (cell : Cell) → slice_get documents (length start) ≡ Some document
    → IsCutTo document cell → AreCutTo documents start → AreCutTo documents (start ++ cell ∷ [])
cut_more documents start document cell here to so_far number found one there is = elim (get-more start cell number one is) [
  | inl before ↦ so_far number found one there before
  | inr last ↦
      let same : document ≡ found = some_is document found (sym here ∙ (ap (slice_get documents) (sym last.0) ∙ there)) in
      subst (λ (d : DocumentRecord). IsCutTo d one) same (subst (IsCutTo document) last.1 to)
]

pub spelled_more : (start : List Cell) (cell : Cell) → length start < 2 ^ 32 → ((number : ℕ) → number < 2 ^ 32 → IsCell number cell) → AreSpelled start
    → AreSpelled (start ++ cell ∷ [])
spelled_more start cell few is so_far number one there = elim (get-more start cell number one there) [
  | inl before ↦ so_far number one before
  | inr last ↦ subst (IsCell number) last.1 (subst (λ n. IsCell n cell) (sym last.0) (is (length start) few))
]
