use Rattle.std.proofs.Common.{◌≡◌}
use Rattle.attributes.specs.Attributes.{reverted}
use Rattle.attributes.proofs.Prefixes.{prefix}
use Rattle.attributes.proofs.changing.invert.Given as goal

abbrev pub invariant-loop-key : goal.invariant-loop-key
invariant-loop-key l = l.back ≡ reverted (prefix l.change l.key-index) l.attrs
