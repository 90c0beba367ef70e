use Rattle.std.proofs.Common.{◌≡◌}
use Rattle.attributes.proofs.Prefixes.{prefix}
use Rattle.attributes.proofs.shared.Shared.copy_of_map.Given as goal

abbrev pub invariant-loop-key : goal.invariant-loop-key
invariant-loop-key g l = l.copy ≡ prefix l.self l.key-index
