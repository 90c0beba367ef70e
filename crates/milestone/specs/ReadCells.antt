-- What was read of the two cells of a document.
use Rattle.std.specs.Prelude.{ℕ, ◌≡◌}
use Rattle.history.specs.Cell.{Pair}
use Rattle.milestone.specs.Revisions.{revisions_in}
use Rattle.milestone.specs.Cells.{place_of, size_of, number_of, revisions_of}
use Rattle.milestone.specs.declared.cells.ReadCells.{ReadCells}

-- what the two cells hold
abbrev pub pair_of : ReadCells → Pair
pair_of read = (read.first, read.second)

-- the cells are those at this place, of this size and of the document of this number, and their revisions are those that were read
pub record IsReadAs (place size number : ℕ) (read : ReadCells) : Type 0 where
  pub begins : place_of read.cells ≡ place
  pub long : size_of read.cells ≡ size
  pub document : number_of read.cells ≡ number
  pub revisions : revisions_of read.cells ≡ revisions_in (pair_of read)
