use Rattle.std.proofs.Common.{sym, ap, ◌∙◌, take}
use Rattle.revision.specs.State.{all_grow}
use Rattle.world.specs.World.{World, takens}
use Rattle.world.specs.Stepping.{empty_store}
use Rattle.world.proofs.Steps.{left_grow}
use Rattle.world.proofs.stepping.World.compose.Goals as goal

pub folded-requires : goal.folded-requires
folded-requires c = record {
  grow = ap (λ o. all_grow (empty_store c.self.inside.limits) (takens o)) (c.first.ensures ∙ ap (λ (w : World). take c.self.inside.without w.board.order) (sym c.self.view_is))
      ∙ left_grow c.self.inside.limits c.self.inside.without c.self.inside.board.order c.self.invariant.grow;
}
