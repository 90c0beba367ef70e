use Rattle.std.proofs.Common.{◌≡◌, ◌≤◌, length, take}
use Rattle.revision.specs.steps.Turning.{steps_to_last_reset}
use Rattle.revision.proofs.past.count_to_last_reset.Given as goal

-- those that are left decide
abbrev pub invariant-loop-count : goal.invariant-loop-count
invariant-loop-count l = record {
  within : l.count ≤ length l.takers;
  same : steps_to_last_reset (take l.count l.takers) ≡ steps_to_last_reset l.takers;
}

abbrev pub decreases-loop-count : goal.decreases-loop-count
decreases-loop-count l = l.count
