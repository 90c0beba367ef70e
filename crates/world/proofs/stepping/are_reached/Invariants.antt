use Rattle.std.proofs.Common.{◌≡◌, drop, map}
use Rattle.revision.specs.Pending.{record_of}
use Rattle.world.specs.Stepping.{are_reached}
use Rattle.world.proofs.stepping.are_reached.Given as goal

-- those that are left decide
abbrev pub invariant-loop-number : goal.invariant-loop-number
invariant-loop-number l =
    are_reached l.composed l.number (drop l.number (map record_of l.made)) (drop l.number (map record_of l.held)) ≡ are_reached l.composed 0 (map record_of l.made) (map record_of l.held)
