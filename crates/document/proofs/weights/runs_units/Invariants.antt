use Rattle.std.proofs.Common.{◌≡◌, length, take}
use Rattle.document.specs.Runs.{units_of_runs}
use Rattle.document.proofs.weights.runs_units.Given as goal

abbrev pub invariant-loop-run : goal.invariant-loop-run
invariant-loop-run l = l.units ≡ length (units_of_runs (take l.run-index l.runs))
