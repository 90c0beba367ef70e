use Rattle.disk.proofs.Moments.{begins, begins_anywhere}
use Rattle.disk.proofs.laws.run_begins.Goals as goal

pub returns-clause-synced : goal.returns-clause-synced
returns-clause-synced g c = begins

pub returns-clause-anywhere : goal.returns-clause-anywhere
returns-clause-anywhere g c = begins_anywhere
