use Rattle.std.proofs.Common.{ap}
use Rattle.recovery.specs.Found.{commands_of}
use Rattle.hub.proofs.Making.{made_by}
use Rattle.hub.proofs.run.Run.committed.Goals as goal

pub returns : goal.returns
returns g c =
    made_by g.L.Life.start (commands_of c.args.told.now) c.self.inside.batch c.args.self.commands c.self.inside.place c.args.self.place c.self.inside.order
    c.self.inside.made.items (ap (λ r. r.commands) c.self.view_is) (ap (λ r. r.place) c.self.view_is) c.requires.place c.self.invariant.1 c.begins_order.ensures
