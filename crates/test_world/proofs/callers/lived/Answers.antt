use Rattle.std.proofs.Common.{◌≡◌, List, [], ◌∷◌, ◌++◌, refl, sym, ap, subst, ◌∙◌}
use Rattle.world.specs.Event.{Event}
use Rattle.world.specs.Law.{TakenOnce}
use Rattle.world.specs.Step.{step, run}
use Rattle.world.specs.Stepping.{empty_store}
use Rattle.world.specs.World.{World, begun}
use Rattle.test_world.proofs.callers.lived.Goals as goal

run-one_more : (world : World) (events : List Event) (event : Event) → step (run world events) event ≡ run world (events ++ event ∷ [])
run-one_more world [] event = refl
run-one_more world (first ∷ others) event = run-one_more (step world first) others event

one_more : (start old new : World) (event : Event) → (events : List Event) × (old ≡ run start events) → new ≡ step old event
    → (events : List Event) × (new ≡ run start events)
one_more start old new event before is =
    (before.0 ++ event ∷ [], is ∙ (ap (λ (w : World). step w event) before.1 ∙ run-one_more start before.0 event))

pub loop-event-preserved : goal.loop-event-preserved
loop-event-preserved c =
    one_more (begun (empty_store c.args.limits)) c.loop-event.world c.step.new.self _ c.loop-event.invariant c.in_ok-step.ensures.ok

pub returns-clause-once : goal.returns-clause-once
returns-clause-once c =
    subst TakenOnce (sym c.loop-event.invariant.1) (c.every_schedule.ensures.taken_once (empty_store c.args.limits) c.loop-event.invariant.0)
