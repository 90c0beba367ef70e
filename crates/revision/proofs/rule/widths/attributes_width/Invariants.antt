use Rattle.std.proofs.Common.{◌≡◌, ◌+◌, ◌-◌, ◌<◌, ◌^◌, All, min, sum_by, take}
use Rattle.revision.specs.Spellable.{IsPair, IsValue}
use Rattle.revision.specs.Width.{pair_width, value_width}
use Rattle.revision.proofs.rule.widths.attributes_width.Given as goal

-- the width so far, and where it is short all so far can be spelled
abbrev pub invariant-loop-entry : goal.invariant-loop-entry
invariant-loop-entry l = record {
  wide : l.width ≡ min (4 + sum_by (pair_width value_width) (take l.entry-index l.entries)) (2 ^ 64 - 1);
  short : l.width < 2 ^ 32 → All (IsPair IsValue) (take l.entry-index l.entries);
}
