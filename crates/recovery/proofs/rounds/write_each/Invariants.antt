use Rattle.std.proofs.Common.{◌≡◌, ℕ, take}
use Rattle.history.specs.Cell.{Cell, Pair}
use Rattle.recovery.specs.declared.shape.Shape.{Shape}
use Rattle.recovery.specs.steps.Group.{StandTogether, WriteCells, IsUnderWay, AreSpelled, AreReady}
use Rattle.recovery.proofs.rounds.write_each.Given as goal

abbrev pub invariant-loop-member : goal.invariant-loop-member
invariant-loop-member g l = record {
  writes : WriteCells g.D.Disk l.member-index 0 l.cells l.cells l.fn.device l.device;
  faults : g.D.Disk.faults l.device ≡ g.D.Disk.faults l.fn.device;
  way : (shape : Shape) (held : ℕ → Pair) → StandTogether g.D.Disk shape l.members held l.cells l.fn.device
      → IsUnderWay g.D.Disk shape l.members l.member-index (λ n pair. pair ≡ held n) held l.fn.device l.device l.cells;
  ready : (shape : Shape) (held : ℕ → Pair) (put : ℕ → Cell) → StandTogether g.D.Disk shape l.members held l.cells l.fn.device → AreSpelled shape put l.members
      → AreReady (take l.member-index l.members) put l.cells (g.D.Disk.seen l.device);
}
