use Rattle.std.proofs.Common.{◌≡◌}
use Rattle.attributes.specs.Map.{without}
use Rattle.attributes.proofs.Prefixes.{prefix}
use Rattle.attributes.proofs.changing.transform.Given as goal

abbrev pub invariant-loop-entry : goal.invariant-loop-entry
invariant-loop-entry l = l.after ≡ without (prefix l.second l.entry-index) l.first
