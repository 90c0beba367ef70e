use Rattle.std.proofs.Common.{◌≡◌, ◌↔◌, length, take}
use Rattle.disk.specs.Crash.{LeavesIn, Leaves, history_of}
use Rattle.recovery.specs.Formatting.{IsUnformatted, IsPreparedWith}
use Rattle.recovery.proofs.formatting.put_first.Given as goal

-- the first documents are in their cells
abbrev pub invariant-loop-number : goal.invariant-loop-number
invariant-loop-number g l = record {
  prepared : IsPreparedWith l.shape (take l.number l.milestones) (g.D.Disk.seen l.disk);
  any_moment : LeavesIn IsUnformatted (history_of g.D.Disk l.fn.disk).now → Leaves IsUnformatted (history_of g.D.Disk l.fn.disk) (history_of g.D.Disk l.disk);
  length : length (g.D.Disk.seen l.disk) ≡ length (g.D.Disk.seen l.fn.disk);
  honest : g.D.Disk.honest l.disk ↔ g.D.Disk.honest l.fn.disk;
  faults : g.D.Disk.faults l.disk ≡ g.D.Disk.faults l.fn.disk;
}
