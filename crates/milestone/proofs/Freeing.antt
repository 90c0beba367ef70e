-- What closing the older one of two open cells leaves.
use Rattle.std.proofs.Common.{◌≡◌, ⊎_elim, inl, inr, ℕ, ◌+◌, ◌*◌, ◌≤◌, ◌<◌, Option, Some, None, List, [], ◌∷◌, length, refl, sym, ◌∙◌, ap, subst, arith}
use Rattle.std.proofs.lemmas.Bool.{lt-ltb, le-ltb}
use Rattle.std.proofs.lemmas.Option.{none-some, same_Some}
use Rattle.disk.specs.Device.{overwritten, SameOutside}
use Rattle.disk.proofs.CallerLemmas.{overwritten_same_outside, same_outside_wider}
use Rattle.history.specs.Cell.{Cell, Pair, freed}
use Rattle.milestone.specs.OneCell.{bytes_at, HoldsOpenCell, HoldsCell, HoldsPair}
use Rattle.milestone.specs.Revisions.{Revisions, revision_in}
use Rattle.milestone.specs.Cells.{Fits, FitsNow, HoldsInCells, IsLeftByFreeing}
use Rattle.milestone.specs.declared.cells.Cells.{Cells}
use Rattle.milestone.proofs.Holding.{first_changed, second_changed, closing_cell, closed_cell}

-- an open cell, of a revision that is known
pub open_of : (revision : ℕ) (cell : Option Cell) → Some revision ≡ revision_in cell → (x : Cell) × (cell ≡ Some x) × (x.revision ≡ revision)
open_of revision None known = absurd (none-some revision (sym known))
open_of revision (Some x) known = (x, refl, sym (same_Some revision x.revision known))

second_freed : (x y : Cell) → y.revision < x.revision → freed (Some x, Some y) ≡ (Some x, None)
second_freed x y below = rw (lt-ltb y.revision x.revision below) refl

first_freed : (x y : Cell) → x.revision ≤ y.revision → freed (Some x, Some y) ≡ (None, Some y)
first_freed x y above = rw (le-ltb y.revision x.revision above) refl

abbrev first_alone : Option Cell → Pair
first_alone first = (first, None)

abbrev second_alone : Option Cell → Pair
second_alone second = (None, second)

-- cells that are known elsewhere as they are there
pub holds_there : {p q s t m n : ℕ} (content : List ℕ) (pair : Pair) → p ≡ q → s ≡ t → m ≡ n → HoldsPair q t n content pair → HoldsPair p s m content pair
holds_there {p} {q} {s} {t} {m} {n} content pair place size number holds =
    subst (λ k. HoldsPair k s m content pair) (sym place) (subst (λ k. HoldsPair q k m content pair) (sym size) (subst (λ k. HoldsPair q t k content pair) (sym number) holds))

module _ (old : List ℕ) (cells : Cells) (pair : Pair) (fits : Fits old cells pair) (within : cells.place + 2 * cells.size ≤ length old) where
  -- nothing has changed
  pub as_it_was : HoldsInCells old cells pair old
  as_it_was = record { outside = record { same_length = refl; before = refl; after = refl }; holds = fits.holds }

  some : 0 < cells.size
  some = omega (arith, cells.size_low)

  module _ (first second : ℕ) (first_known : cells.first ≡ Some first) (second_known : cells.second ≡ Some second) where
    first_open : (x : Cell) × (pair.0 ≡ Some x) × (x.revision ≡ first)
    first_open = open_of first pair.0 (sym first_known ∙ ap (λ (r : Revisions). r.0) fits.revisions)

    second_open : (x : Cell) × (pair.1 ≡ Some x) × (x.revision ≡ second)
    second_open = open_of second pair.1 (sym second_known ∙ ap (λ (r : Revisions). r.1) fits.revisions)

    abbrev x : Cell
    x = first_open.0

    abbrev y : Cell
    y = second_open.0

    both : ◌≡◌ {A = Pair} pair (Some first_open.0, Some second_open.0)
    both = λ i. (first_open.1 i, second_open.1 i)

    -- the second one is the older
    module _ (below : second < first) where
      freed_is : freed pair ≡ (pair.0, None)
      freed_is = ap freed both ∙ second_freed first_open.0 second_open.0 (omega (arith, below, first_open.2, second_open.2)) ∙ ap first_alone (sym first_open.1)

      in_second : (content : List ℕ) → SameOutside (cells.place + cells.size) 1 old content → SameOutside (cells.place + cells.size) cells.size old content
      in_second content same = same_outside_wider (cells.place + cells.size) cells.size (cells.place + cells.size) 1 old content (omega arith) (omega (arith, some)) same

      in_both : (content : List ℕ) → SameOutside (cells.place + cells.size) 1 old content → SameOutside cells.place (2 * cells.size) old content
      in_both content same = same_outside_wider cells.place (2 * cells.size) (cells.place + cells.size) 1 old content (omega arith) (omega (arith, some)) same

      held : HoldsOpenCell cells.number (bytes_at (cells.place + cells.size) cells.size old) second_open.0
      held = subst (λ (o : Option Cell). HoldsCell (cells.place + cells.size) cells.size cells.number old o) second_open.1 fits.holds.second

      pub freeing_second : (content : List ℕ) → SameOutside (cells.place + cells.size) 1 old content → IsLeftByFreeing old cells pair content
      freeing_second content same = ⊎_elim
          (λ shut. inr (record {
            outside = in_both content same;
            holds = subst (HoldsPair cells.place cells.size cells.number content) (sym freed_is)
                (second_changed cells.place cells.size cells.number old content None pair (in_second content same) fits.holds shut);
          }))
          (λ still. inl (record {
            outside = in_both content same;
            holds = second_changed cells.place cells.size cells.number old content pair.1 pair (in_second content same) fits.holds
                (subst (λ (o : Option Cell). HoldsCell (cells.place + cells.size) cells.size cells.number content o) (sym second_open.1) still);
          }))
          (closing_cell (cells.place + cells.size) cells.size cells.number old content second_open.0 some (omega (arith, within)) same held)

      pub freed_second : (new : List ℕ) (later : Cells) → new ≡ overwritten old (cells.place + cells.size) (0 ∷ []) → later.place ≡ cells.place → later.size ≡ cells.size
          → later.number ≡ cells.number → later.first ≡ cells.first → later.second ≡ None → FitsNow old cells new later (freed pair)
      freed_second new later is place size number one other =
          let same : SameOutside (cells.place + cells.size) 1 old new =
          subst (λ (l : List ℕ). SameOutside (cells.place + cells.size) 1 old l) (sym is) (overwritten_same_outside old (cells.place + cells.size) (0 ∷ []) (omega (arith, within, some))) in
          let closed = closed_cell (cells.place + cells.size) cells.size cells.number old new some (omega (arith, within)) is in
          let now = second_changed cells.place cells.size cells.number old new None pair (in_second new same) fits.holds closed in
          subst (λ (p : Pair). FitsNow old cells new later p) (sym freed_is) (record {
            outside = in_both new same;
            same = record { place = place; size = size; number = number };
            fits = record {
              holds = holds_there new _ place size number now;
              revisions = λ i. ((one ∙ ap (λ (r : Revisions). r.0) fits.revisions) i, other i);
            };
          })

    -- the first one is the older, also of two of one revision
    module _ (above : first ≤ second) where
      freed_is_2 : freed pair ≡ (None, pair.1)
      freed_is_2 = ap freed both ∙ first_freed first_open.0 second_open.0 (omega (arith, above, first_open.2, second_open.2)) ∙ ap second_alone (sym second_open.1)

      in_first : (content : List ℕ) → SameOutside cells.place 1 old content → SameOutside cells.place cells.size old content
      in_first content same = same_outside_wider cells.place cells.size cells.place 1 old content (omega arith) (omega (arith, some)) same

      in_both_2 : (content : List ℕ) → SameOutside cells.place 1 old content → SameOutside cells.place (2 * cells.size) old content
      in_both_2 content same = same_outside_wider cells.place (2 * cells.size) cells.place 1 old content (omega arith) (omega (arith, some)) same

      held_2 : HoldsOpenCell cells.number (bytes_at cells.place cells.size old) first_open.0
      held_2 = subst (λ (o : Option Cell). HoldsCell cells.place cells.size cells.number old o) first_open.1 fits.holds.first

      pub freeing_first : (content : List ℕ) → SameOutside cells.place 1 old content → IsLeftByFreeing old cells pair content
      freeing_first content same = ⊎_elim
          (λ shut. inr (record {
            outside = in_both_2 content same;
            holds = subst (HoldsPair cells.place cells.size cells.number content) (sym freed_is_2)
                (first_changed cells.place cells.size cells.number old content None pair (in_first content same) fits.holds shut);
          }))
          (λ still. inl (record {
            outside = in_both_2 content same;
            holds = first_changed cells.place cells.size cells.number old content pair.0 pair (in_first content same) fits.holds
                (subst (λ (o : Option Cell). HoldsCell cells.place cells.size cells.number content o) (sym first_open.1) still);
          }))
          (closing_cell cells.place cells.size cells.number old content first_open.0 some (omega (arith, within)) same held_2)

      pub freed_first : (new : List ℕ) (later : Cells) → new ≡ overwritten old cells.place (0 ∷ []) → later.place ≡ cells.place → later.size ≡ cells.size
          → later.number ≡ cells.number → later.first ≡ None → later.second ≡ cells.second → FitsNow old cells new later (freed pair)
      freed_first new later is place size number one other =
          let same : SameOutside cells.place 1 old new =
          subst (λ (l : List ℕ). SameOutside cells.place 1 old l) (sym is) (overwritten_same_outside old cells.place (0 ∷ []) (omega (arith, within, some))) in
          let closed = closed_cell cells.place cells.size cells.number old new some (omega (arith, within)) is in
          let now = first_changed cells.place cells.size cells.number old new None pair (in_first new same) fits.holds closed in
          subst (λ (p : Pair). FitsNow old cells new later p) (sym freed_is_2) (record {
            outside = in_both_2 new same;
            same = record { place = place; size = size; number = number };
            fits = record {
              holds = holds_there new _ place size number now;
              revisions = λ i. (one i, (other ∙ ap (λ (r : Revisions). r.1) fits.revisions) i);
            };
          })

-- one of two cells is closed: nothing is freed
pub first_closed : (pair : Pair) → pair.0 ≡ None → freed pair ≡ pair
first_closed (None, second) closed = refl
first_closed (Some x, second) closed = absurd (none-some x (sym closed))

pub second_closed : (pair : Pair) → pair.1 ≡ None → freed pair ≡ pair
second_closed (None, second) closed = refl
second_closed (Some x, None) closed = refl
second_closed (Some x, Some y) closed = absurd (none-some y (sym closed))
