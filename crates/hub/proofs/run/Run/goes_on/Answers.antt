use Rattle.std.proofs.Common.{ap}
use Rattle.recovery.specs.Found.{commands_of}
use Rattle.hub.proofs.Placing.{goes_on_by}
use Rattle.hub.proofs.run.Run.goes_on.Goals as goal

pub returns-clause-next : goal.returns-clause-next
returns-clause-next g c =
    goes_on_by (commands_of c.args.told.now) c.self.inside.batch c.args.self.now.commands c.self.inside.place c.args.self.now.place c.self.inside.order
    c.copy.result c.copy.ensures (ap (λ r. r.commands) c.self.view_is) (ap (λ r. r.place) c.self.view_is) c.requires c.self.invariant.0 c.begins_order.ensures
