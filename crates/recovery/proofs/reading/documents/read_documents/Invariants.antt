use Rattle.std.proofs.Common.{◌≡◌, ◌++◌, length}
use Rattle.std.specs.Vec.Iter.{into_iter_items, into_iter_len}
use Rattle.disk.specs.Crash.{history_of}
use Rattle.recovery.specs.steps.Reading.{lists_of}
use Rattle.recovery.proofs.Documents.{SoFar}
use Rattle.recovery.proofs.reading.documents.read_documents.Given as goal

-- as many numbers are read as lists were taken
abbrev pub invariant-loop-own : goal.invariant-loop-own
invariant-loop-own g l = record {
  so_far : SoFar l.format (g.D.Disk.honest l.disk) (g.D.Disk.seen l.fn.disk) l.shape l.pick (lists_of l.fn.entries.items) l.read.cells.items l.read.state;
  number : length l.read.cells.items ≡ length l.yielded;
  others : l.yielded ++ into_iter_items l.own-iterator ≡ l.fn.entries.items;
  count : into_iter_len l.own-iterator ≡ length (into_iter_items l.own-iterator);
  stays : history_of g.D.Disk l.disk ≡ history_of g.D.Disk l.fn.disk;
  honest : g.D.Disk.honest l.disk → g.D.Disk.honest l.fn.disk;
  good : g.D.Disk.faults l.disk ≡ g.D.Disk.faults l.fn.disk;
}
