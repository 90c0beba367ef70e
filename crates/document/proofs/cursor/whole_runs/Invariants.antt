use Rattle.std.proofs.Common.{◌≡◌, ◌≤◌, length, take}
use Rattle.document.specs.Runs.{units_of_runs}
use Rattle.document.proofs.cursor.whole_runs.Given as goal

abbrev pub invariant-loop-count : goal.invariant-loop-count
invariant-loop-count l = record {
  units : l.units ≡ length (units_of_runs (take l.count l.runs));
  most : l.units ≤ l.most;
}
