use Rattle.std.proofs.Common.{◌≡◌, true, drop}
use Rattle.revision.specs.State.{all_grow, fold}
use Rattle.world.specs.World.{takens}
use Rattle.world.specs.Stepping.{empty_store}
use Rattle.world.proofs.stepping.folded.Given as goal

abbrev pub invariant-loop-entry : goal.invariant-loop-entry
invariant-loop-entry l = record {
  so_far : fold l.state (takens (drop l.entry-index l.entries)) ≡ fold (empty_store l.fn.limits) (takens l.entries);
  grows : all_grow l.state (takens (drop l.entry-index l.entries)) ≡ true;
}
