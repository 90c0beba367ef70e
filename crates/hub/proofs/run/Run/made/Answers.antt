use Rattle.std.proofs.Common.{List, ap, sym, subst}
use Rattle.delta.specs.Element.{Element}
use Rattle.recovery.specs.Found.{commands_of}
use Rattle.revision.specs.Made.{AreMade}
use Rattle.revision.specs.State.{fold}
use Rattle.hub.proofs.Making.{made_by}
use Rattle.hub.proofs.run.Run.made.Goals as goal

pub returns : goal.returns
returns g c =
    subst (λ (documents : List (List Element)). AreMade (fold g.L.Life.start (commands_of c.args.told.now)) c.args.self.now.commands documents) (sym c.as_slice.ensures.value)
    (made_by g.L.Life.start (commands_of c.args.told.now) c.self.inside.batch c.args.self.now.commands c.self.inside.place c.args.self.now.place c.self.inside.order
    c.self.inside.made.items (ap (λ r. r.commands) c.self.view_is) (ap (λ r. r.place) c.self.view_is) c.requires c.self.invariant.1 c.begins_order.ensures)
