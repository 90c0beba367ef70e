use Rattle.std.proofs.Common.{◌≡◌, ◌≤◌, ◌+◌, ◌-◌, length}
use Rattle.attributes.specs.Attributes.{changed}
use Rattle.attributes.specs.Map.{without}
use Rattle.attributes.proofs.Prefixes.{prefix}
use Rattle.attributes.proofs.changing.apply_each.Given as goal

abbrev pub invariant-loop-kept : goal.invariant-loop-kept
invariant-loop-kept l = record {
  kept : l.kept ≤ length l.attrs.entries;
  made : l.made ≤ length l.change.entries;
  after : l.after ≡ changed (without (prefix l.attrs l.kept) l.change) (prefix l.change l.made);
}

abbrev pub decreases-loop-kept : goal.decreases-loop-kept
decreases-loop-kept l = (length l.attrs.entries - l.kept) + (length l.change.entries - l.made)
