use Rattle.std.proofs.Common.{◌≡◌, ◌+◌, ◌-◌, ◌≤◌, ◌<◌, ◌++◌, length, take, drop}
use Rattle.std.specs.List.{AllByRecursion}
use Rattle.disk.specs.Crash.{history_of}
use Rattle.journal.specs.Area.{IsBody, open_records}
use Rattle.journal.specs.Scan.{items_of}
use Rattle.journal.proofs.area.Area.scan.Given as goal

-- what was read so far is the open records, and then what is pending
abbrev pub invariant-loop-bodies : goal.invariant-loop-bodies
invariant-loop-bodies g l = record {
  split : g.D.Disk.honest l.disk → take (l.next + length l.pending) (drop l.at (g.D.Disk.seen l.fn.disk)) ≡ open_records (items_of l.bodies.items) ++ l.pending;
  next : l.next ≡ length (open_records (items_of l.bodies.items));
  each : AllByRecursion IsBody (items_of l.bodies.items);
  room : l.next < l.size;
  within : l.next + length l.pending ≤ l.size;
  stays : history_of g.D.Disk l.disk ≡ history_of g.D.Disk l.fn.disk;
  honest : g.D.Disk.honest l.disk → g.D.Disk.honest l.fn.disk;
  good : g.D.Disk.faults l.disk ≡ g.D.Disk.faults l.fn.disk;
}

-- a record is passed, or bytes are read
abbrev pub decreases-loop-bodies : goal.decreases-loop-bodies
decreases-loop-bodies g l = (l.size - l.next) + (l.size - (l.next + length l.pending))
