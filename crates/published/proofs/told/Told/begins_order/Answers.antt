use Rattle.recovery.specs.Found.{commands_of}
use Rattle.published.proofs.Orders.{begun}
use Rattle.published.proofs.told.Told.begins_order.Goals as goal

pub returns : goal.returns
returns g c =
    let met = c.meets.ensures in
    begun (commands_of c.args.self.now) c.ordered-mine.result c.args.ordered.now met.0 c.ordered-mine.ensures met.1 met.2 c.requires
