use Rattle.std.proofs.Common.{◌≡◌, take, map, length}
use Rattle.segments.specs.Recovered.{segment_in}
use Rattle.recovery.specs.Marks.{marks_of}
use Rattle.recovery.specs.steps.Reading.{lists_of}
use Rattle.recovery.proofs.Gathering.{GatheredFrom}
use Rattle.recovery.proofs.MarkedRead.{Ascending, AreRead}
use Rattle.recovery.proofs.reading.entries.gather.Given as goal

-- the lists have the commands of the segments so far, which are marked
abbrev pub invariant-loop-segment : goal.invariant-loop-segment
invariant-loop-segment l = record {
  count : length l.lists.items ≡ l.docs;
  gathered : GatheredFrom (map segment_in (take l.segment-index l.segments)) (lists_of l.lists.items);
  marked : Ascending 0 (map segment_in l.segments) → AreRead (map segment_in (take l.segment-index l.segments)) (marks_of l.marks);
}
