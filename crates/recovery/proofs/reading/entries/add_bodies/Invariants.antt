use Rattle.std.proofs.Common.{take}
use Rattle.journal.specs.Scan.{items_of}
use Rattle.recovery.specs.Marks.{marks_of}
use Rattle.recovery.specs.Marked.{AreBodiesMarked}
use Rattle.recovery.specs.steps.Reading.{lists_of}
use Rattle.recovery.proofs.Gathering.{AddedBy}
use Rattle.recovery.proofs.reading.entries.add_bodies.Given as goal

-- the batches of the bodies so far are added and marked
abbrev pub invariant-loop-body : goal.invariant-loop-body
invariant-loop-body l = record {
  added : AddedBy (items_of (take l.body-index l.bodies)) (lists_of l.fn.lists) (lists_of l.lists);
  marked : AreBodiesMarked l.number (items_of (take l.body-index l.bodies)) (marks_of l.fn.marks) (marks_of l.marks);
}
