use Rattle.recovery.specs.Found.{commands_of}
use Rattle.world.specs.World.{takens}
use Rattle.hub.proofs.MovedAhead.{moved_further}
use Rattle.hub.proofs.ahead.Ahead.of.Goals as goal

pub invariant_of-result : goal.invariant_of-result
invariant_of-result g c =
    moved_further g.L.Life.start (commands_of c.args.told.now) (takens c.ordered.result) c.args.moved c.ordered.ensures c.requires
