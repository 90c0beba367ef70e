use Rattle.std.proofs.Common.{◌≡◌, ℕ, take}
use Rattle.history.specs.Cell.{Cell, Pair}
use Rattle.milestone.specs.Cells.{with_cell}
use Rattle.recovery.specs.declared.shape.Shape.{Shape}
use Rattle.recovery.specs.steps.Group.{StandTogether, WriteCells, IsUnderWay, MayBePut, AreSpelled, AreReady, AreHalf, AreWaiting, AreDistinct, part}
use Rattle.recovery.specs.Cells.{AreCellsOf}
use Rattle.recovery.proofs.rounds.open_each.Given as goal

abbrev pub invariant-loop-member : goal.invariant-loop-member
invariant-loop-member g l = record {
  writes : WriteCells g.D.Disk l.member-index 0 l.fn.cells l.cells l.fn.device l.device;
  faults : g.D.Disk.faults l.device ≡ g.D.Disk.faults l.fn.device;
  way : (shape : Shape) (held : ℕ → Pair) (put : ℕ → Cell) → StandTogether g.D.Disk shape l.members held l.fn.cells l.fn.device
      → AreSpelled shape put l.members → AreReady l.members put l.fn.cells (g.D.Disk.seen l.fn.device) → AreHalf l.members held
      → IsUnderWay g.D.Disk shape l.members l.member-index (MayBePut l.members put held) (part (take l.member-index l.members) (λ n. with_cell (put n) (held n)) held) l.fn.device l.device l.cells;
  waits : (shape : Shape) (put : ℕ → Cell) → AreCellsOf shape l.fn.cells → AreDistinct l.members → AreReady l.members put l.fn.cells (g.D.Disk.seen l.fn.device) → AreWaiting l.members l.member-index put l.cells (g.D.Disk.seen l.device);
}
