use Rattle.std.proofs.Common.{◌≡◌, ◌-◌, ◌^◌, min, take}
use Rattle.document.specs.Runs.{units_of_runs}
use Rattle.document.specs.Weight.{weight_of}
use Rattle.document.proofs.weights.runs_weight.Given as goal

abbrev pub invariant-loop-run : goal.invariant-loop-run
invariant-loop-run l = l.weight ≡ min (weight_of (units_of_runs (take l.run-index l.runs))) (2 ^ 64 - 1)
