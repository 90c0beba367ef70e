use Rattle.std.proofs.Common.{◌≡◌, ◌+◌, ◌-◌, ◌<◌, ◌^◌, All, min, sum_by, take}
use Rattle.revision.specs.Spellable.{IsOperation}
use Rattle.revision.specs.Width.{operation_width}
use Rattle.revision.proofs.rule.widths.delta_width.Given as goal

-- the width so far, and where it is short all so far can be spelled
abbrev pub invariant-loop-op : goal.invariant-loop-op
invariant-loop-op l = record {
  wide : l.width ≡ min (4 + sum_by (operation_width) (take l.op-index l.ops)) (2 ^ 64 - 1);
  short : l.width < 2 ^ 32 → All (IsOperation) (take l.op-index l.ops);
}
