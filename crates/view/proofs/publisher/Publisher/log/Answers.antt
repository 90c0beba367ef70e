use Rattle.std.proofs.Common.{[], append-nil}
use Rattle.view.proofs.Ordering.{log_is, within_moments}
use Rattle.view.proofs.publisher.Publisher.log.Goals as goal

pub returns-clause-batches : goal.returns-clause-batches
returns-clause-batches g c = rw (← c.self.view_is) (log_is c.self.inside.log.batches c.self.inside.told c.self.inside.stage c.self.invariant.2)

pub returns-clause-moments : goal.returns-clause-moments
returns-clause-moments g c =
    rw (← c.self.view_is)
    (within_moments g.D.Disk c.self.inside.log.moments c.self.inside.log.moments c.self.inside.stage ([], append-nil c.self.inside.log.moments))
