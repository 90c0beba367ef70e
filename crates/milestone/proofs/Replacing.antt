-- What putting a cell over the older one of two leaves.
use Rattle.std.proofs.Common.{inl, inr, ℕ, ◌*◌, List, sym, subst}
use Rattle.disk.specs.Device.{SameOutside}
use Rattle.disk.proofs.CallerLemmas.{same_outside_then}
use Rattle.history.specs.Cell.{Cell, Pair, freed}
use Rattle.milestone.specs.declared.cells.Cells.{Cells}
use Rattle.milestone.specs.Cells.{FitsNow, HoldsInCells, IsLeftByPut, IsLeftByReplacing, place_of, size_of}
use Rattle.milestone.proofs.Freeing.{holds_there}

module _ (old mid : List ℕ) (before later : Cells) (pair : Pair) (now : FitsNow old before mid later (freed pair)) where
  -- what the cells hold later, seen from before
  held_from : (held : Pair) (content : List ℕ) → HoldsInCells mid later held content → HoldsInCells old before held content
  held_from held content there = record {
    outside = same_outside_then (place_of before) (2 * size_of before) old mid content now.outside
        (subst (λ n. SameOutside n (2 * size_of before) mid content) now.same.place (subst (λ n. SameOutside (place_of later) (2 * n) mid content) now.same.size there.outside));
    holds = holds_there content held (sym now.same.place) (sym now.same.size) (sym now.same.number) there.holds;
  }

  -- a crash while the cell is put, once the older one is closed
  pub replacing : (cell : Cell) (content : List ℕ) → IsLeftByPut mid later (freed pair) cell content → IsLeftByReplacing old before pair cell content
  replacing cell content (inl held) = inl (inr (held_from (freed pair) content held))
  replacing cell content (inr held) = inr (held_from _ content held)
