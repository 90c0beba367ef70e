use Rattle.std.proofs.Common.{refl, ap, ◌∙◌, arith}
use Rattle.world.specs.Event.{Publish}
use Rattle.world.specs.World.{World}
use Rattle.world.specs.Step.{running_step}
use Rattle.world.specs.Stepping.{world_of}
use Rattle.world.proofs.Steps.{publish-steps}
use Rattle.world.proofs.stepping.World.publish.Goals as goal

pub returns-then-self-taken-2 : goal.returns-then-self-taken-2
returns-then-self-taken-2 c =
    publish-steps (world_of c.self.inside) c.self.inside.published c.taken-taken.result c.taken-taken.ensures.taken refl
    (omega (arith, c.if-self-taken.true, c.taken-taken.ensures.taken)) c.self.invariant.taken_long
    (omega (arith, c.if-self-taken-2.true, c.taken-taken.ensures.taken))
    ∙ ap (λ (w : World). running_step w Publish) c.self.view_is
