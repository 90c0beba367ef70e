use Rattle.std.proofs.Common.{◌≡◌, length}
use Rattle.disk.specs.Crash.{history_of}
use Rattle.segments.specs.steps.Reading.{AreRead, KnowAreas}
use Rattle.segments.proofs.reading.read_slots.Given as goal

abbrev pub invariant-loop-slot : goal.invariant-loop-slot
invariant-loop-slot g l = record {
  count : length l.slots.items ≡ l.slot;
  found : g.D.Disk.honest l.disk → AreRead l.at l.size (g.D.Disk.seen l.fn.disk) l.slots.items l.slot;
  areas : KnowAreas l.at l.size l.slots.items l.slot;
  stays : history_of g.D.Disk l.disk ≡ history_of g.D.Disk l.fn.disk;
  honest : g.D.Disk.honest l.disk → g.D.Disk.honest l.fn.disk;
  good : g.D.Disk.faults l.disk ≡ g.D.Disk.faults l.fn.disk;
}
