-- A content holds one pair of a document's cells at most.
use Rattle.std.proofs.Common.{◌≡◌, ℕ, ◌+◌, Option, Some, None, List, drop, refl, sym, ◌∙◌, ap}
use Rattle.history.specs.Cell.{Cell, Pair}
use Rattle.milestone.specs.CellSpelling.{Format}
use Rattle.milestone.specs.OneCell.{bytes_at, HoldsOpenCellIn, HoldsCellIn, HoldsPairIn}
use Rattle.milestone.proofs.Holding.{open_there}
use Rattle.milestone.proofs.Bodies.{one_cell_body}

one_open_cell : (format : Format) (number : ℕ) (bytes : List ℕ) (a b : Cell) → HoldsOpenCellIn format number bytes a → HoldsOpenCellIn format number bytes b → a ≡ b
one_open_cell format number bytes a b holds_a holds_b =
    one_cell_body format number a b holds_a.rest holds_b.rest holds_a.is holds_b.is (ap (λ (l : List ℕ). drop 5 l) (sym holds_a.split ∙ holds_b.split))

one_cell : (format : Format) (place size number : ℕ) (content : List ℕ) (a b : Option Cell) → HoldsCellIn format place size number content a → HoldsCellIn format place size number content b → a ≡ b
one_cell format place size number content None None holds_a holds_b = refl
one_cell format place size number content None (Some b) holds_a holds_b = absurd (holds_a (open_there format number (bytes_at place size content) b holds_b))
one_cell format place size number content (Some a) None holds_a holds_b = absurd (holds_b (open_there format number (bytes_at place size content) a holds_a))
one_cell format place size number content (Some a) (Some b) holds_a holds_b = ap (λ (c : Cell). Some c) (one_open_cell format number (bytes_at place size content) a b holds_a holds_b)

pub one_pair : (format : Format) (place size number : ℕ) (content : List ℕ) (a b : Pair) → HoldsPairIn format place size number content a → HoldsPairIn format place size number content b → a ≡ b
one_pair format place size number content a b holds_a holds_b = λ i. (
  one_cell format place size number content a.0 b.0 holds_a.first holds_b.first i,
  one_cell format (place + size) size number content a.1 b.1 holds_a.second holds_b.second i,
)
