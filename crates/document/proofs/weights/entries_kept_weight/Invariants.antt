use Rattle.std.proofs.Common.{◌≡◌, ◌-◌, ◌^◌, min, take, sum_by}
use Rattle.document.specs.steps.Weighing.{kept_weight}
use Rattle.document.proofs.weights.entries_kept_weight.Given as goal

abbrev pub invariant-loop-entry : goal.invariant-loop-entry
invariant-loop-entry l = l.weight ≡ min (sum_by (kept_weight l.change) (take l.entry-index l.entries)) (2 ^ 64 - 1)
