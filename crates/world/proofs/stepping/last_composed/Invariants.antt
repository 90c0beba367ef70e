use Rattle.std.proofs.Common.{◌≡◌, drop, max}
use Rattle.world.specs.World.{last_composed}
use Rattle.world.proofs.stepping.last_composed.Given as goal

abbrev pub invariant-loop-number : goal.invariant-loop-number
invariant-loop-number l = max l.last (last_composed l.document (drop l.number-index l.composed)) ≡ last_composed l.document l.composed
