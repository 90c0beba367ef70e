use Rattle.recovery.specs.Found.{commands_of}
use Rattle.published.proofs.Orders.{begun_through}
use Rattle.published.proofs.order.Order.covers.Goals as goal

pub returns-clause-begins : goal.returns-clause-begins
returns-clause-begins g c = begun_through (commands_of c.args.told.now) c.ordered.result c.args.self.now c.ordered.ensures c.holds-2.ensures.begins
