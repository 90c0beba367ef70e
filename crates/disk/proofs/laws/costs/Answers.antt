use Rattle.disk.proofs.Costing.{costs_write, costs_sync}
use Rattle.disk.proofs.laws.costs.Goals as goal

pub returns-clause-write : goal.returns-clause-write
returns-clause-write c = costs_write

pub returns-clause-sync : goal.returns-clause-sync
returns-clause-sync c = costs_sync
