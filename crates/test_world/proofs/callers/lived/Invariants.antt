use Rattle.std.proofs.Common.{◌≡◌, List}
use Rattle.world.specs.Event.{Event}
use Rattle.world.specs.Step.{run}
use Rattle.world.specs.Stepping.{empty_store}
use Rattle.world.specs.World.{begun}
use Rattle.test_world.proofs.callers.lived.Given as goal

abbrev pub invariant-loop-event : goal.invariant-loop-event
invariant-loop-event l = (events : List Event) × (l.world ≡ run (begun (empty_store l.fn.limits)) events)
