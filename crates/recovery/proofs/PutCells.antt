-- What a store represents when the two cells of one document change.
use Rattle.std.proofs.Common.{◌≡◌, ◌⊎◌, ⊎_elim, inl, inr, ℕ, zero, suc, ◌+◌, ◌-◌, ◌*◌, ◌≤◌, ◌<◌, Option, Some, List, [], ◌∷◌, length, set, take, drop, refl, sym, ◌∙◌, ap, subst, arith}
use Rattle.std.specs.Prelude.{slice_get}
use Rattle.std.proofs.lemmas.Bool.{cases_eq}
use Rattle.std.proofs.lemmas.List.{length-set}
use Rattle.std.proofs.lemmas.Option.{same_Some, slice_get_within}
use Rattle.disk.specs.Device.{SameOutside}
use Rattle.disk.proofs.CallerLemmas.{same_at}
use Rattle.history.specs.Cell.{Pair, cells_at, with_pair}
use Rattle.milestone.proofs.CallerLemmas.{agree_within}
use Rattle.milestone.specs.OneCell.{HoldsPair}
use Rattle.milestone.specs.declared.cells.Cells.{Cells}
use Rattle.milestone.specs.Cells.{Fits, SameCells, place_of, size_of, number_of}
use Rattle.segments.specs.Slot.{Segment, HoldsSlot}
use Rattle.segments.specs.Table.{HoldsTable, slot_at, slot_place}
use Rattle.recovery.specs.declared.shape.Shape.{Shape}
use Rattle.recovery.specs.Shape.{cells_place, slots_place}
use Rattle.recovery.specs.Layout.{IsLaidOut}
use Rattle.recovery.specs.Cells.{IsCellsOf, AreCellsOf, FitEach}
use Rattle.recovery.proofs.Layouts.{part_same, part_before, cells_before}
pub use Rattle.history.proofs.CallerLemmas.{length-with_pair as length_with_pair, pair-own as pair_own, pair-other as pair_other}
pub use Rattle.recovery.proofs.Beginning.{part_behind}

-- what is set twice is set once
pub with_pair_twice : (number : ℕ) (pair now : Pair) (cells : List Pair) → with_pair number now (with_pair number pair cells) ≡ with_pair number now cells
with_pair_twice number pair now [] = refl
with_pair_twice zero pair now (first ∷ others) = refl
with_pair_twice (suc number) pair now (first ∷ others) = ap (λ (l : List Pair). first ∷ l) (with_pair_twice number pair now others)

-- the slots lie behind the cells: their table stays
pub table_stays : (at size bound : ℕ) (old content : List ℕ) (table : List (Option Segment)) → bound ≤ at → drop bound content ≡ drop bound old → HoldsTable at size old table → HoldsTable at size content table
table_stays at size bound old content table behind same holds = record {
  each = λ slot below.
      subst (λ (l : List ℕ). HoldsSlot l (slot_at table slot)) (sym (part_behind (slot_place at size slot) size bound old content (omega (arith, behind)) same)) (holds.each slot below);
  differ = holds.differ;
}

-- where the cells of a later document begin
pub cells_after : (shape : Shape) (number other : ℕ) → number < other → cells_place shape number + 2 * shape.cell ≤ cells_place shape other
cells_after shape number other below = let room = part_before number other (2 * shape.cell) below in omega (arith, room)

module _ (shape : Shape) (number : ℕ) (old content : List ℕ) (same : SameOutside (cells_place shape number) (2 * shape.cell) old content) where
  -- the cells of the other documents stay
  pub other_bytes : (other : ℕ) → (number ≡ other → ⊥) → take (2 * shape.cell) (drop (cells_place shape other) content) ≡ take (2 * shape.cell) (drop (cells_place shape other) old)
  other_bytes other differ = ⊎_elim
      (λ (above : number < other). part_behind (cells_place shape other) (2 * shape.cell) (cells_place shape number + 2 * shape.cell) old content (cells_after shape number other above) same.after)
      (λ (below : other < number). part_same (cells_place shape other) (2 * shape.cell) (cells_place shape number) old content (cells_after shape other number below) same.before)
      (apart number other differ)
    where
      apart : (a b : ℕ) → (a ≡ b → ⊥) → (a < b) ⊎ (b < a)
      apart zero zero differ = absurd (differ refl)
      apart zero (suc b) differ = inl (omega arith)
      apart (suc a) zero differ = inr (omega arith)
      apart (suc a) (suc b) differ = ⊎_elim (λ l. inl (omega (arith, l))) (λ l. inr (omega (arith, l))) (apart a b (λ same. differ (ap suc same)))

  module _ (cells : List Pair) (table : List (Option Segment)) (laid_out : IsLaidOut old shape cells table) (inside : number < shape.docs)
      (pair : Pair) (holds : HoldsPair (cells_place shape number) shape.cell number content pair) where
    each_pair : (other : ℕ) → other < shape.docs → HoldsPair (cells_place shape other) shape.cell other content (cells_at (with_pair number pair cells) other)
    each_pair other below = ⊎_elim
        (λ (is : number ≡ other).
        subst (λ n. HoldsPair (cells_place shape n) shape.cell n content (cells_at (with_pair number pair cells) n)) is
        (subst (HoldsPair (cells_place shape number) shape.cell number content) (sym (pair_own number pair cells (omega (arith, inside, laid_out.in_cells.count)))) holds))
        (λ (differ : number ≡ other → ⊥).
        subst (HoldsPair (cells_place shape other) shape.cell other content) (sym (pair_other number pair cells other differ))
        (agree_within (cells_place shape other) shape.cell other old content (cells_at cells other) (other_bytes other differ) (laid_out.in_cells.each other below)))
        (cases_eq number other)

    -- the layout with the pair set
    pub laid_out_with : IsLaidOut content shape (with_pair number pair cells) table
    laid_out_with = record {
      names = record {
        formatted = record {
          long = omega (arith, laid_out.names.formatted.long, same.same_length);
          gate = same_at (cells_place shape number) (2 * shape.cell) old content same 0 (λ within. absurd (omega (arith, within.0))) ∙ laid_out.names.formatted.gate;
        };
        named = part_same 1 32 (cells_place shape number) old content (omega arith) same.before ∙ laid_out.names.named;
        in_range = laid_out.names.in_range;
        long = omega (arith, laid_out.names.long, same.same_length);
      };
      in_cells = record {
        count = length_with_pair number pair cells ∙ laid_out.in_cells.count;
        each = each_pair;
      };
      in_slots = record {
        count = laid_out.in_slots.count;
        holds = table_stays (slots_place shape) shape.slot (cells_place shape number + 2 * shape.cell) old content table (cells_before shape number inside) same.after laid_out.in_slots.holds;
      };
    }

-- what holds of the one that is set and of the others before holds of each
pub set_each : {A : Type 0} (P : ℕ → A → Type 0) (xs : List A) (number : ℕ) (x : A) → P number x
    → ((n : ℕ) (a : A) → (number ≡ n → ⊥) → slice_get xs n ≡ Some a → P n a) → (n : ℕ) (a : A) → slice_get (set xs number x) n ≡ Some a → P n a
set_each P [] number x here each n a is = absurd (omega (arith, slice_get_within [] n a is))
set_each P (y ∷ ys) zero x here each zero a is = subst (P 0) (same_Some x a is) here
set_each P (y ∷ ys) zero x here each (suc n) a is = each (suc n) a (λ same. absurd (omega (arith, same))) is
set_each P (y ∷ ys) (suc number) x here each zero a is = each zero a (λ same. absurd (omega (arith, same))) is
set_each P (y ∷ ys) (suc number) x here each (suc n) a is =
    set_each (λ m b. P (suc m) b) ys number x here (λ m b differ. each (suc m) b (λ same. differ (omega (arith, same)))) n a is

-- the known cells of a document are others, in the same place
pub cells_put : (shape : Shape) (known : List Cells) (number : ℕ) (one later : Cells) → AreCellsOf shape known → IsCellsOf shape number one → SameCells one later
    → AreCellsOf shape (set known number later)
cells_put shape known number one later are its same = record {
  count = length-set known number later ∙ are.count;
  each = set_each (IsCellsOf shape) known number later (record { place = same.place ∙ its.place; size = same.size ∙ its.size; of = same.number ∙ its.of })
      (λ n c differ is. are.each n c is);
}

-- cells that hold a pair in one content hold it in another that agrees with it there
pub fits_there : (shape : Shape) (number : ℕ) (cells : Cells) (a b : List ℕ) (pair : Pair) → IsCellsOf shape number cells
    → take (2 * shape.cell) (drop (cells_place shape number) b) ≡ take (2 * shape.cell) (drop (cells_place shape number) a) → Fits a cells pair → Fits b cells pair
fits_there shape number cells a b pair its same fits = record {
  holds = agree_within (place_of cells) (size_of cells) (number_of cells) a b pair
      (subst (λ n. take (2 * size_of cells) (drop n b) ≡ take (2 * size_of cells) (drop n a)) (sym its.place)
      (subst (λ n. take (2 * n) (drop (cells_place shape number) b) ≡ take (2 * n) (drop (cells_place shape number) a)) (sym its.size) same)) fits.holds;
  revisions = fits.revisions;
}

-- and fit the content with the pair set
pub fit_put : (shape : Shape) (old new : List ℕ) (known : List Cells) (number : ℕ) (later : Cells) (cells : List Pair) (pair : Pair) → AreCellsOf shape known → number < length cells
    → SameOutside (cells_place shape number) (2 * shape.cell) old new → FitEach old known cells → Fits new later pair → FitEach new (set known number later) (with_pair number pair cells)
fit_put shape old new known number later cells pair are below same fit fits =
    set_each (λ n c. Fits new c (cells_at (with_pair number pair cells) n)) known number later
    (subst (Fits new later) (sym (pair_own number pair cells below)) fits)
    (λ n c differ is.
    subst (Fits new c) (sym (pair_other number pair cells n differ))
    (fits_there shape n c old new (cells_at cells n) (are.each n c is) (other_bytes shape number old new same n differ) (fit n c is)))
