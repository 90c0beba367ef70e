-- Documents that are copied one after the other.
use Rattle.std.proofs.Common.{◌≡◌, inl, inr, ℕ, Some, List, [], ◌∷◌, ◌++◌, length, sym, ◌∙◌, ap}
use Rattle.std.specs.Prelude.{slice_get}
use Rattle.revision.specs.State.{DocumentRecord}
use Rattle.history.specs.Cell.{Cell}
use Rattle.recovery.specs.Open.{newest_cell}
use Rattle.migration.proofs.Cut.{some_is, get-more}

-- the first of some documents are copied
abbrev pub AreCopiedTo : List DocumentRecord → List Cell → Type 0
AreCopiedTo documents start = (number : ℕ) (document : DocumentRecord) (cell : Cell) → slice_get documents number ≡ Some document → slice_get start number ≡ Some cell
    → cell ≡ newest_cell document

pub copied_more : (documents : List DocumentRecord) (start : List Cell) (document : DocumentRecord) (cell : Cell) → slice_get documents (length start) ≡ Some document
    → cell ≡ newest_cell document → AreCopiedTo documents start → AreCopiedTo documents (start ++ cell ∷ [])
copied_more documents start document cell here to so_far number found one there is = elim (get-more start cell number one is) [
  | inl before ↦ so_far number found one there before
  | inr last ↦
      let same : document ≡ found = some_is document found (sym here ∙ (ap (slice_get documents) (sym last.0) ∙ there)) in
      sym last.1 ∙ (to ∙ ap newest_cell same)
]
