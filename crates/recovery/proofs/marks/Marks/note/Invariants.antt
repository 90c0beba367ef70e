use Rattle.std.proofs.Common.{◌≤◌, ◌-◌, length, take}
use Rattle.recovery.specs.Marks.{marks_of, room_of, IsNoted}
use Rattle.recovery.proofs.marks.Marks.note.Given as goal

abbrev pub invariant-loop-taken : goal.invariant-loop-taken
invariant-loop-taken l = record {
  noted : IsNoted l.segment (take l.taken-index l.batch) (marks_of l.fn.self) (marks_of l.self);
  room : length l.batch - l.taken-index ≤ room_of l.self;
}
