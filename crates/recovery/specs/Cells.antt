-- The cells of a store's documents, as they are known in memory.
use Rattle.std.specs.Prelude.{◌≡◌, ℕ, Option, Some, None, List, length, slice_get}
use Rattle.history.specs.Cell.{Pair, cells_at}
use Rattle.milestone.specs.declared.cells.Cells.{Cells}
use Rattle.milestone.specs.Revisions.{lowest_of, highest_of}
use Rattle.milestone.specs.declared.format.Format.{Format}
use Rattle.milestone.specs.declared.format.Format.TheVariants.{Two}
use Rattle.milestone.specs.Cells.{FitsIn, place_of, size_of, number_of, revisions_of}
use Rattle.recovery.specs.declared.shape.Shape.{Shape}
use Rattle.recovery.specs.Shape.{cells_place}

-- the two cells of the document of a number, in a store of this shape
pub record IsCellsOf (shape : Shape) (number : ℕ) (cells : Cells) : Type 0 where
  pub place : place_of cells ≡ cells_place shape number
  pub size : size_of cells ≡ shape.cell
  pub of : number_of cells ≡ number

-- those of all documents that a store of this shape may have, in order of their numbers
pub record AreCellsOf (shape : Shape) (known : List Cells) : Type 0 where
  pub count : length known ≡ shape.docs
  pub each : (number : ℕ) (cells : Cells) → slice_get known number ≡ Some cells → IsCellsOf shape number cells

-- cells are those of a content, where the ones of each number hold the pair of that number
abbrev pub FitEachIn : Format → List ℕ → List Cells → List Pair → Type 0
FitEachIn format content known pairs =
    (number : ℕ) (cells : Cells) → slice_get known number ≡ Some cells → FitsIn format content cells (cells_at pairs number)

-- in the second format, which is written
abbrev pub FitEach : List ℕ → List Cells → List Pair → Type 0
FitEach content known pairs = FitEachIn Two content known pairs

-- the lowest revision that is known of the open cells of a document, 0 where none is open
abbrev pub lowest_in : Option Cells → ℕ
lowest_in None = 0
lowest_in (Some cells) = lowest_of (revisions_of cells)

abbrev pub lowest_known : List Cells → ℕ → ℕ
lowest_known known number = lowest_in (slice_get known number)

-- and the highest one
abbrev pub highest_in : Option Cells → ℕ
highest_in None = 0
highest_in (Some cells) = highest_of (revisions_of cells)

abbrev pub highest_known : List Cells → ℕ → ℕ
highest_known known number = highest_in (slice_get known number)
