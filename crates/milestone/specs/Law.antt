-- What holds of cells.
use Rattle.std.specs.Prelude.{ℕ, ◌≡◌, ◌+◌, ◌*◌, ◌≤◌, List, length, take, drop}
use Rattle.delta.specs.Element.{Element}
use Rattle.delta.specs.Operation.{Operation}
use Rattle.delta.specs.Gaps.{End}
use Rattle.delta.specs.Normal.{nf}
use Rattle.document.specs.Weight.{weight_of}
use Rattle.revision.specs.State.{Limits}
use Rattle.revision.specs.Width.{delta_width}
use Rattle.revision.specs.Past.{Past, newest}
use Rattle.revision.specs.Invariants.{IsLimits, IsPast}
use Rattle.revision.specs.Replay.{IsReplay}
use Rattle.history.specs.Cell.{Cell, Pair, CellKeeps}
use Rattle.milestone.specs.CellSpelling.{Format, cell_body, inserts_of, IsCell}
use Rattle.milestone.specs.Job.{KeepLengths}
use Rattle.milestone.specs.OneCell.{HoldsPairIn, HoldsPair}

-- What has a spelling as a cell and keeps the limits fits a cell that has 128 bytes more than a document may weigh, where a further number
-- of a window weighs as many bytes as it takes: the gate and the length of the body take five bytes.
abbrev pub FitsItsCell : Type 0
FitsItsCell = (number : ℕ) (limits : Limits) (cell : Cell) → limits.retry ≡ 8 → IsCell number cell → CellKeeps limits cell
    → 5 + length (cell_body number cell) ≤ limits.weight + 128

-- The spelling of a content has at most twice as many bytes as the document weighs, and four.
abbrev pub LightContent : Type 0
LightContent = (units : List Element) → delta_width (inserts_of units) ≤ 4 + 2 * weight_of units

-- A content holds one pair at most at a place, in either format.
abbrev pub OnePair : Type 0
OnePair = (format : Format) (place size number : ℕ) (content : List ℕ) (a b : Pair) → HoldsPairIn format place size number content a
    → HoldsPairIn format place size number content b → a ≡ b

-- Contents that agree within the range of two cells hold the same pair there.
abbrev pub AgreeWithin : Type 0
AgreeWithin = (place size number : ℕ) (a b : List ℕ) (pair : Pair) → take (2 * size) (drop place b) ≡ take (2 * size) (drop place a)
    → HoldsPair place size number a pair → HoldsPair place size number b pair

-- What a revision that is held is made of keeps the bound of a job's lengths, where the past keeps the limits: each document has at most 2^29
-- units, and at most 65,536 deltas are held.
abbrev pub PastsKeepLengths : Type 0
PastsKeepLengths = (limits : Limits) (past : Past) (revision : ℕ) (units : List Element) (deltas : List (List Operation)) → IsLimits limits → IsPast limits past
    → revision ≤ newest past → IsReplay past revision units deltas → KeepLengths (nf (End units)) deltas
