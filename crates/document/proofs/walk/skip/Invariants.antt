use Rattle.std.proofs.Common.{◌≤◌, ◌-◌, length}
use Rattle.document.specs.steps.Passes.{IsSteppedOver}
use Rattle.document.proofs.walk.skip.Given as goal

abbrev pub invariant-loop-left : goal.invariant-loop-left
invariant-loop-left l = IsSteppedOver l.initial.cursor l.cursor (l.len - l.left) × (l.left ≤ l.len) × (l.left ≤ length l.cursor)

abbrev pub decreases-loop-left : goal.decreases-loop-left
decreases-loop-left l = l.left
