use Rattle.std.proofs.Common.{◌≡◌, ◌⊎◌, ◌≤◌, ◌+◌, take}
use Rattle.std.specs.Prelude.{sum_by}
use Rattle.revision.specs.Command.{width_of}
use Rattle.world.specs.World.{takens}
use Rattle.hub.proofs.run.longest.Given as goal

abbrev pub invariant-loop-i : goal.invariant-loop-i
invariant-loop-i l = record {
  used : l.used ≡ 4 + sum_by width_of (take l.i (takens l.entries));
  fits : (l.i ≡ 0) ⊎ (l.used ≤ l.cap);
}
