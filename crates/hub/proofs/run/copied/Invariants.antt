use Rattle.std.proofs.Common.{◌≡◌, take}
use Rattle.world.specs.World.{takens}
use Rattle.hub.proofs.run.copied.Given as goal

abbrev pub invariant-loop-entry : goal.invariant-loop-entry
invariant-loop-entry l = l.run.items ≡ takens (take l.entry-index l.entries)
