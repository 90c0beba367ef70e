-- What was read of the slots of a device.
use Rattle.std.specs.Prelude.{◌≡◌, ℕ, Option, List, map}
use Rattle.journal.specs.Scan.{items_of}
use Rattle.segments.specs.Slot.{Segment}
use Rattle.segments.specs.Order.{segments_of}
use Rattle.segments.specs.declared.reading.RecoveredSegment.{RecoveredSegment}
use Rattle.segments.specs.declared.ring.RecoveredRing.{RecoveredRing}
use Rattle.segments.specs.Ring.{Fits}

-- a segment that was read
abbrev pub segment_in : RecoveredSegment → Segment
segment_in read = record { number = read.number; bodies = items_of read.bodies.items }

-- The ring is that of a content with this table, and its segments in order were read.
pub record IsReadAs (content : List ℕ) (read : RecoveredRing) : Type 0 where
  pub table : List (Option Segment)
  pub fits : Fits content read.ring table
  pub segments : map segment_in read.segments.items ≡ segments_of table
