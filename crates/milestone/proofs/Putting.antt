-- What putting a cell leaves.
use Rattle.std.proofs.Common.{◌≡◌, ◌≢◌, ⊎_elim, inl, inr, ℕ, ◌+◌, ◌*◌, ◌≤◌, ◌<◌, Option, Some, None, List, [], ◌∷◌, length, refl, sym, ◌∙◌, ap, subst, arith}
use Rattle.std.proofs.lemmas.Option.{none-some}
use Rattle.disk.specs.Device.{overwritten, SameOutside}
use Rattle.disk.proofs.CallerLemmas.{same_outside_wider}
use Rattle.journal.specs.Area.{open_gate, frame, IsGated}
use Rattle.history.specs.Cell.{Cell, Pair}
use Rattle.milestone.specs.CellSpelling.{cell_body, IsCell}
use Rattle.milestone.specs.OneCell.{HoldsCell, HoldsPair}
use Rattle.milestone.specs.Revisions.{Revisions, revision_in}
use Rattle.milestone.specs.Cells.{HasClosed, with_cell, Fits, FitsNow, IsLeftByPut, revisions_of}
use Rattle.milestone.specs.declared.cells.Cells.{Cells}
use Rattle.milestone.proofs.Holding.{first_changed, second_changed, putting_cell, put_cell, put_outside}
use Rattle.milestone.proofs.Freeing.{open_of, holds_there}

-- a cell with no known revision is closed
pub closed_of : (cell : Option Cell) → None ≡ revision_in cell → cell ≡ None
closed_of None known = refl
closed_of (Some x) known = absurd (none-some x.revision known)

some_of : (first : Option ℕ) → first ≢ None → (k : ℕ) × (first ≡ Some k)
some_of None there = absurd (there refl)
some_of (Some k) there = (k, refl)

put_first : (cell : Cell) (pair : Pair) → pair.0 ≡ None → with_cell cell pair ≡ (Some cell, pair.1)
put_first cell (None, second) closed = refl
put_first cell (Some x, second) closed = absurd (none-some x (sym closed))

put_second : (cell : Cell) (pair : Pair) (x : Cell) → pair.0 ≡ Some x → with_cell cell pair ≡ (pair.0, Some cell)
put_second cell (None, second) x there = absurd (none-some x there)
put_second cell (Some y, second) x there = refl

module _ (old : List ℕ) (cells : Cells) (pair : Pair) (fits : Fits old cells pair) (within : cells.place + 2 * cells.size ≤ length old)
    (cell : Cell) (is : IsCell cells.number cell) (short : 5 + length (cell_body cells.number cell) ≤ cells.size) where
  abbrev bytes : List ℕ
  bytes = frame (cell_body cells.number cell)

  some : 0 < cells.size
  some = omega (arith, cells.size_low)

  -- the first cell is closed
  module _ (none_known : cells.first ≡ None) where
    first_closed : pair.0 ≡ None
    first_closed = closed_of pair.0 (sym none_known ∙ ap (λ (r : Revisions). r.0) fits.revisions)

    with_it : with_cell cell pair ≡ (Some cell, pair.1)
    with_it = put_first cell pair first_closed

    shut : HoldsCell cells.place cells.size cells.number old None
    shut = subst (λ (o : Option Cell). HoldsCell cells.place cells.size cells.number old o) first_closed fits.holds.first

    wide : (content : List ℕ) → SameOutside cells.place cells.size old content → SameOutside cells.place (2 * cells.size) old content
    wide content same = same_outside_wider cells.place (2 * cells.size) cells.place cells.size old content (omega arith) (omega arith) same

    pub putting_first : (content : List ℕ) → IsGated cells.place bytes old content → IsLeftByPut old cells pair cell content
    putting_first content gated =
        let left = putting_cell cells.place cells.size cells.number old cell is short (omega (arith, within)) shut content gated in
        ⊎_elim
        (λ still. inl (record {
          outside = wide content left.0;
          holds = first_changed cells.place cells.size cells.number old content pair.0 pair left.0 fits.holds
              (subst (λ (o : Option Cell). HoldsCell cells.place cells.size cells.number content o) (sym first_closed) still);
        }))
        (λ there. inr (record {
          outside = wide content left.0;
          holds = subst (HoldsPair cells.place cells.size cells.number content) (sym with_it)
              (first_changed cells.place cells.size cells.number old content (Some cell) pair left.0 fits.holds there);
        }))
        left.1

    pub is_put_first : (new : List ℕ) (later : Cells) → new ≡ overwritten (overwritten old (cells.place + 1) bytes) cells.place (open_gate ∷ []) → later.place ≡ cells.place → later.size ≡ cells.size
        → later.number ≡ cells.number → later.first ≡ Some cell.revision → later.second ≡ cells.second → FitsNow old cells new later (with_cell cell pair)
    is_put_first new later seen place size number one other =
        let same = put_outside cells.place cells.size cells.number old cell is short (omega (arith, within)) new seen in
        let there = put_cell cells.place cells.size cells.number old cell is short (omega (arith, within)) new seen in
        subst (λ (p : Pair). FitsNow old cells new later p) (sym with_it) (record {
          outside = wide new same;
          same = record { place = place; size = size; number = number };
          fits = record {
            holds = holds_there new _ place size number (first_changed cells.place cells.size cells.number old new (Some cell) pair same fits.holds there);
            revisions = λ i. (one i, (other ∙ ap (λ (r : Revisions). r.1) fits.revisions) i);
          };
        })

  -- the second one is
  module _ (there : cells.first ≢ None) (closed : HasClosed (revisions_of cells)) where
    known : (k : ℕ) × (cells.first ≡ Some k)
    known = some_of cells.first there

    none_known : cells.second ≡ None
    none_known = ⊎_elim (λ first. absurd (there first)) (λ second. second) closed

    first_there : (x : Cell) × (pair.0 ≡ Some x) × (x.revision ≡ known.0)
    first_there = open_of known.0 pair.0 (sym known.1 ∙ ap (λ (r : Revisions). r.0) fits.revisions)

    second_closed : pair.1 ≡ None
    second_closed = closed_of pair.1 (sym none_known ∙ ap (λ (r : Revisions). r.1) fits.revisions)

    with_it_2 : with_cell cell pair ≡ (pair.0, Some cell)
    with_it_2 = put_second cell pair first_there.0 first_there.1

    shut_2 : HoldsCell (cells.place + cells.size) cells.size cells.number old None
    shut_2 = subst (λ (o : Option Cell). HoldsCell (cells.place + cells.size) cells.size cells.number old o) second_closed fits.holds.second

    wide_2 : (content : List ℕ) → SameOutside (cells.place + cells.size) cells.size old content → SameOutside cells.place (2 * cells.size) old content
    wide_2 content same = same_outside_wider cells.place (2 * cells.size) (cells.place + cells.size) cells.size old content (omega arith) (omega arith) same

    pub putting_second : (content : List ℕ) → IsGated (cells.place + cells.size) bytes old content → IsLeftByPut old cells pair cell content
    putting_second content gated =
        let left = putting_cell (cells.place + cells.size) cells.size cells.number old cell is short (omega (arith, within)) shut_2 content gated in
        ⊎_elim
        (λ still. inl (record {
          outside = wide_2 content left.0;
          holds = second_changed cells.place cells.size cells.number old content pair.1 pair left.0 fits.holds
              (subst (λ (o : Option Cell). HoldsCell (cells.place + cells.size) cells.size cells.number content o) (sym second_closed) still);
        }))
        (λ there. inr (record {
          outside = wide_2 content left.0;
          holds = subst (HoldsPair cells.place cells.size cells.number content) (sym with_it_2)
              (second_changed cells.place cells.size cells.number old content (Some cell) pair left.0 fits.holds there);
        }))
        left.1

    pub is_put_second : (new : List ℕ) (later : Cells) → new ≡ overwritten (overwritten old (cells.place + cells.size + 1) bytes) (cells.place + cells.size) (open_gate ∷ []) → later.place ≡ cells.place → later.size ≡ cells.size
        → later.number ≡ cells.number → later.first ≡ cells.first → later.second ≡ Some cell.revision → FitsNow old cells new later (with_cell cell pair)
    is_put_second new later seen place size number one other =
        let same = put_outside (cells.place + cells.size) cells.size cells.number old cell is short (omega (arith, within)) new seen in
        let there = put_cell (cells.place + cells.size) cells.size cells.number old cell is short (omega (arith, within)) new seen in
        subst (λ (p : Pair). FitsNow old cells new later p) (sym with_it_2) (record {
          outside = wide_2 new same;
          same = record { place = place; size = size; number = number };
          fits = record {
            holds = holds_there new _ place size number (second_changed cells.place cells.size cells.number old new (Some cell) pair same fits.holds there);
            revisions = λ i. ((one ∙ ap (λ (r : Revisions). r.0) fits.revisions) i, other i);
          };
        })
