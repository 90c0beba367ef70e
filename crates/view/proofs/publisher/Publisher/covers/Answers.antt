use Rattle.view.proofs.Ordering.{within_log}
use Rattle.view.proofs.publisher.Publisher.covers.Goals as goal

pub returns-clause-begins : goal.returns-clause-begins
returns-clause-begins g c =
    rw (← c.self.view_is) (within_log c.self.inside.log.batches c.self.inside.told c.args.told.now c.self.inside.stage c.self.invariant.2 c.covers.ensures.begins)
