-- What the marks of a store say of the entries that its slots hold.
use Rattle.std.specs.Prelude.{◌≡◌, ◌≢◌, ℕ, ◌≤◌, max, Option, Some, List, map, All}
use Rattle.revision.specs.Command.{Taken}
use Rattle.journal.specs.BatchSpelling.{IsBatch, batch}
use Rattle.history.specs.Entries.{greatest}
use Rattle.history.specs.Cell.{Pair}
use Rattle.history.specs.Law.{IsCovered}
use Rattle.segments.specs.Slot.{Segment}
use Rattle.segments.specs.Numbers.{number_at, open_count, IsOldest}
use Rattle.segments.specs.Table.{slot_at, numbers_of}
use Rattle.recovery.specs.declared.marks.Mark.{Mark}
use Rattle.recovery.specs.Marks.{greatest_marked}
use Rattle.recovery.specs.Found.{commands_of}

-- the bodies of a segment spell these batches
pub record SpellSegment (segment : Segment) (batches : List (List Taken)) : Type 0 where
  pub spelled : segment.bodies ≡ map batch batches
  pub each : All IsBatch batches

-- The marks of a segment are the greatest revisions among its entries.
abbrev pub IsMarked : Segment → List Mark → Type 0
IsMarked segment marks = (batches : List (List Taken)) → SpellSegment segment batches
    → (document : ℕ) → greatest_marked segment.number document marks ≡ greatest document (commands_of batches)

-- The marks of a segment are raised to the greatest revisions among the entries that more bodies of it spell, and those of other
-- segments stay.
pub record AreBodiesMarked (number : ℕ) (bodies : List (List ℕ)) (before after : List Mark) : Type 0 where
  pub here : (batches : List (List Taken)) → bodies ≡ map batch batches → All IsBatch batches
      → (document : ℕ) → greatest_marked number document after ≡ max (greatest document (commands_of batches)) (greatest_marked number document before)
  pub segments : (other document : ℕ) → other ≢ number → greatest_marked other document after ≡ greatest_marked other document before

-- Each segment of a table is marked, and the greatest mark of any other number is 0.
pub record AreMarked (table : List (Option Segment)) (marks : List Mark) : Type 0 where
  pub each : (slot : ℕ) (segment : Segment) → slot_at table slot ≡ Some segment → IsMarked segment marks
  pub others : (number : ℕ) → ((slot : ℕ) → number_at (numbers_of table) slot ≢ Some number)
      → (document : ℕ) → greatest_marked number document marks ≡ 0

-- The oldest segment may be retired: two slots or more are open, and each of its entries is covered by the open cells of its
-- document.
pub record MayRetire (table : List (Option Segment)) (cells : List Pair) : Type 0 where
  pub two : 2 ≤ open_count (numbers_of table)
  pub slot : ℕ
  pub segment : Segment
  pub has : slot_at table slot ≡ Some segment
  pub oldest : IsOldest (numbers_of table) slot segment.number
  pub covered : (batches : List (List Taken)) → SpellSegment segment batches → All (IsCovered cells) (commands_of batches)
