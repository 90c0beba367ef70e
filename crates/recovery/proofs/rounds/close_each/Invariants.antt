use Rattle.std.proofs.Common.{◌≡◌, ℕ, take}
use Rattle.history.specs.Cell.{Pair, freed}
use Rattle.recovery.specs.declared.shape.Shape.{Shape}
use Rattle.recovery.specs.steps.Group.{StandTogether, WriteCells, IsUnderWay, MayBeFreed, part}
use Rattle.recovery.proofs.rounds.close_each.Given as goal

abbrev pub invariant-loop-member : goal.invariant-loop-member
invariant-loop-member g l = record {
  writes : WriteCells g.D.Disk l.member-index 0 l.fn.cells l.cells l.fn.device l.device;
  faults : g.D.Disk.faults l.device ≡ g.D.Disk.faults l.fn.device;
  way : (shape : Shape) (held : ℕ → Pair) → StandTogether g.D.Disk shape l.members held l.fn.cells l.fn.device
      → IsUnderWay g.D.Disk shape l.members l.member-index (MayBeFreed held) (part (take l.member-index l.members) (λ n. freed (held n)) held) l.fn.device l.device l.cells;
}
