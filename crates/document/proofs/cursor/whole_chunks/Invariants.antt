use Rattle.std.proofs.Common.{◌≡◌, ◌≤◌, length, take}
use Rattle.document.specs.Chunks.{units_of_chunks}
use Rattle.document.proofs.cursor.whole_chunks.Given as goal

abbrev pub invariant-loop-count : goal.invariant-loop-count
invariant-loop-count l = record {
  units : l.units ≡ length (units_of_chunks (take l.count l.chunks));
  most : l.units ≤ l.most;
}
