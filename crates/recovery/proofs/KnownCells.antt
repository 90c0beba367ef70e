-- The cells that are known in memory, where the content changes behind them.
use Rattle.std.proofs.Common.{◌≡◌, ℕ, zero, suc, ◌*◌, ◌<◌, true, Some, None, List, [], ◌∷◌, length, take, refl, sym, ◌∙◌, ap, subst, arith}
use Rattle.std.proofs.lemmas.Option.{slice_get_within}
use Rattle.history.specs.Cell.{Pair, cells_at, lowest}
use Rattle.milestone.specs.declared.cells.Cells.{Cells}
use Rattle.milestone.specs.OneCell.{HoldsPair}
use Rattle.milestone.specs.Revisions.{revisions_in, lowest_of, highest_of}
use Rattle.milestone.specs.Cells.{size_of, number_of}
use Rattle.milestone.proofs.CallerLemmas.{agree_within}
use Rattle.recovery.specs.declared.shape.Shape.{Shape}
use Rattle.recovery.specs.Shape.{is_in_range, cells_place, slots_place}
use Rattle.recovery.specs.Cells.{AreCellsOf, FitEach, lowest_known, highest_known}
use Rattle.recovery.specs.Jobs.{highest}
use Rattle.recovery.proofs.Layouts.{part_same, cells_before}
use Rattle.recovery.proofs.Superblocks.{ranges_of}

lowest_revision : (pair : Pair) → lowest_of (revisions_in pair) ≡ lowest pair
lowest_revision (None, None) = refl
lowest_revision (None, Some second) = refl
lowest_revision (Some first, None) = refl
lowest_revision (Some first, Some second) = refl

-- the lowest revision that is known is that of what the cells hold
pub lowest_same : (content : List ℕ) (known : List Cells) (pairs : List Pair) (number : ℕ) → length known ≡ length pairs → FitEach content known pairs → lowest_known known number ≡ lowest (cells_at pairs number)
lowest_same content [] [] number count fit = refl
lowest_same content [] (pair ∷ pairs) number count fit = absurd (omega (arith, count))
lowest_same content (cells ∷ known) [] number count fit = absurd (omega (arith, count))
lowest_same content (cells ∷ known) (pair ∷ pairs) zero count fit = ap lowest_of (fit zero cells refl).revisions ∙ lowest_revision pair
lowest_same content (cells ∷ known) (pair ∷ pairs) (suc number) count fit =
    lowest_same content known pairs number (omega (arith, count)) (λ other one is. fit (suc other) one is)

-- and so is the highest
pub highest_same : (content : List ℕ) (known : List Cells) (pairs : List Pair) (number : ℕ) → length known ≡ length pairs → FitEach content known pairs → highest_known known number ≡ highest (cells_at pairs number)
highest_same content [] [] number count fit = refl
highest_same content [] (pair ∷ pairs) number count fit = absurd (omega (arith, count))
highest_same content (cells ∷ known) [] number count fit = absurd (omega (arith, count))
highest_same content (cells ∷ known) (pair ∷ pairs) zero count fit = ap highest_of (fit zero cells refl).revisions
highest_same content (cells ∷ known) (pair ∷ pairs) (suc number) count fit =
    highest_same content known pairs number (omega (arith, count)) (λ other one is. fit (suc other) one is)

-- they stay where nothing before the slots changes
pub fit_stays : (old content : List ℕ) (shape : Shape) (known : List Cells) (pairs : List Pair) → is_in_range shape ≡ true → AreCellsOf shape known
    → take (slots_place shape) content ≡ take (slots_place shape) old → FitEach old known pairs → FitEach content known pairs
fit_stays old content shape known pairs in_range are same fit number cells is =
    let below : number < shape.docs = omega (arith, slice_get_within known number cells is, are.count) in
    let its = are.each number cells is in
    let fits = fit number cells is in
    let some = ranges_of shape in_range in
    let pair = cells_at pairs number in
    let held : HoldsPair (cells_place shape number) shape.cell number old pair =
    subst (λ n. HoldsPair (cells_place shape number) shape.cell n old pair) its.of
    (subst (λ n. HoldsPair (cells_place shape number) n (number_of cells) old pair) its.size
    (subst (λ n. HoldsPair n (size_of cells) (number_of cells) old pair) its.place fits.holds)) in
    let now : HoldsPair (cells_place shape number) shape.cell number content pair =
    agree_within (cells_place shape number) shape.cell number old content pair
    (part_same (cells_place shape number) (2 * shape.cell) (slots_place shape) old content (cells_before shape number below) same) held in
    record {
      holds = subst (λ n. HoldsPair n (size_of cells) (number_of cells) content pair) (sym its.place)
          (subst (λ n. HoldsPair (cells_place shape number) n (number_of cells) content pair) (sym its.size)
          (subst (λ n. HoldsPair (cells_place shape number) shape.cell n content pair) (sym its.of) now));
      revisions = fits.revisions;
    }
