use Rattle.std.proofs.Common.{◌≡◌, ◌≤◌, ◌+◌, ◌-◌, length}
use Rattle.attributes.specs.Map.{overwritten, without}
use Rattle.attributes.proofs.Prefixes.{prefix}
use Rattle.attributes.proofs.changing.compose_each.Given as goal

abbrev pub invariant-loop-kept : goal.invariant-loop-kept
invariant-loop-kept l = record {
  kept : l.kept ≤ length l.first.entries;
  made : l.made ≤ length l.second.entries;
  both : l.both ≡ overwritten (without (prefix l.first l.kept) l.second) (prefix l.second l.made);
}

abbrev pub decreases-loop-kept : goal.decreases-loop-kept
decreases-loop-kept l = (length l.first.entries - l.kept) + (length l.second.entries - l.made)
