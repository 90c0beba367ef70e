use Rattle.std.proofs.Common.{◌-◌, ◌≤◌, length}
use Rattle.delta.specs.Operation.{op_base}
use Rattle.document.specs.Pairs.{IsWithinPair}
use Rattle.compose.specs.steps.SteppingBack.{for_units, IsTakenBack}
use Rattle.compose.proofs.undoing.bring_back.Given as goal

abbrev pub invariant-loop-len : goal.invariant-loop-len
invariant-loop-len l = record {
  back : IsTakenBack l.initial.left l.left (for_units (op_base l.op - l.len) l.op) l.initial.made l.made;
  less : l.len ≤ op_base l.op;
  there : l.len ≤ length l.left;
  whole : ¬ (IsWithinPair l.left l.len);
}

abbrev pub decreases-loop-len : goal.decreases-loop-len
decreases-loop-len l = l.len
