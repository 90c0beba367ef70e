use Rattle.std.proofs.Common.{◌≡◌, take}
use Rattle.world.specs.World.{takens}
use Rattle.hub.proofs.run.is_beginning.Given as goal

abbrev pub invariant-loop-i : goal.invariant-loop-i
invariant-loop-i l = take l.i l.batch ≡ takens (take l.i l.entries)
