use Rattle.hub.proofs.MovedAhead.{moved_later}
use Rattle.hub.proofs.ahead.Ahead.in_order.Goals as goal

pub returns-clause-moved : goal.returns-clause-moved
returns-clause-moved g c =
    moved_later g.L.Life.start c.self.inside.order c.args.order.now c.self.inside.moved c.holds.ensures.begins c.self.invariant
