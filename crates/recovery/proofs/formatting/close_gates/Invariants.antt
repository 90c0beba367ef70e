use Rattle.std.proofs.Common.{◌≡◌, ◌↔◌, ℕ, ◌+◌, ◌*◌, ◌<◌, length}
use Rattle.disk.specs.Crash.{LeavesIn, Leaves, history_of}
use Rattle.recovery.specs.Layout.{IsClosed}
use Rattle.recovery.specs.Formatting.{IsUnformatted}
use Rattle.recovery.proofs.formatting.close_gates.Given as goal

abbrev pub invariant-loop-k : goal.invariant-loop-k
invariant-loop-k g l = record {
  any_moment : LeavesIn IsUnformatted (history_of g.D.Disk l.fn.disk).now → Leaves IsUnformatted (history_of g.D.Disk l.fn.disk) (history_of g.D.Disk l.disk);
  closed : (j : ℕ) → j < l.k → IsClosed (g.D.Disk.seen l.disk) (l.at + j * l.size);
  others : (place : ℕ) → IsClosed (g.D.Disk.seen l.fn.disk) place → IsClosed (g.D.Disk.seen l.disk) place;
  length : length (g.D.Disk.seen l.disk) ≡ length (g.D.Disk.seen l.fn.disk);
  honest : g.D.Disk.honest l.disk ↔ g.D.Disk.honest l.fn.disk;
  faults : g.D.Disk.faults l.disk ≡ g.D.Disk.faults l.fn.disk;
}
