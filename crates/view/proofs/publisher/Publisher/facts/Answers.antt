use Rattle.view.proofs.Ordering.{moments_are}
use Rattle.view.proofs.publisher.Publisher.facts.Goals as goal

-- the log's own invariant has its moments
pub returns : goal.returns
returns g c =
    rw (← c.self.view_is)
    (moments_are g.D.Disk g.L.Life.start c.self.inside.log.batches c.self.inside.told c.self.inside.log.moments c.self.inside.stage c.facts.ensures c.self.invariant.2 c.self.invariant.4)
