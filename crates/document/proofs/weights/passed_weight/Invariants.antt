use Rattle.std.proofs.Common.{◌≤◌, ◌-◌, length}
use Rattle.attributes.specs.Map.{empty}
use Rattle.document.specs.Pairs.{IsWithinPair}
use Rattle.document.specs.steps.Weighing.{IsRetainedWeighed}
use Rattle.document.proofs.weights.passed_weight.Given as goal

abbrev pub invariant-loop-left : goal.invariant-loop-left
invariant-loop-left l = record {
  passed : IsRetainedWeighed l.initial.cursor l.cursor (l.len - l.left) empty l.weight;
  less : l.left ≤ l.len;
  there : l.left ≤ length l.cursor;
  whole : ¬ (IsWithinPair l.cursor l.left);
}

abbrev pub decreases-loop-left : goal.decreases-loop-left
decreases-loop-left l = l.left
