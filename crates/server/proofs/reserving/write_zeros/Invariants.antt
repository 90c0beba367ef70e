use Rattle.std.proofs.Common.{◌≡◌, length}
use Rattle.server.proofs.reserving.write_zeros.Given as goal

abbrev pub invariant-loop-piece : goal.invariant-loop-piece
invariant-loop-piece g l = record {
  length : length (g.D.Disk.seen l.disk) ≡ length (g.D.Disk.seen l.fn.disk);
}
