use Rattle.world.proofs.Holding.{begun-holds, run-holds}
use Rattle.world.proofs.laws.every_event_keeps.Goals as goal

pub returns-clause-begun : goal.returns-clause-begun
returns-clause-begun c = begun-holds

pub returns-clause-run : goal.returns-clause-run
returns-clause-run c = run-holds
