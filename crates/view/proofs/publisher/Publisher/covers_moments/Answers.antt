use Rattle.view.proofs.Ordering.{within_moments}
use Rattle.view.proofs.publisher.Publisher.covers_moments.Goals as goal

pub returns-clause-begins : goal.returns-clause-begins
returns-clause-begins g c =
    rw (← c.self.view_is) (within_moments g.D.Disk c.self.inside.log.moments c.args.moments.now c.self.inside.stage c.covers_moments.ensures.begins)
