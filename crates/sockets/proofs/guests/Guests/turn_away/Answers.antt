use Rattle.std.proofs.Common.{◌∙◌, ap}
use Rattle.sockets.specs.Host.{are_unasked}
use Rattle.sockets.proofs.Unasked.{one_more_unasked}
use Rattle.sockets.proofs.guests.Guests.turn_away.Goals as goal

pub returns : goal.returns
returns g c =
    ap are_unasked c.add.ensures ∙ one_more_unasked c.args.self.now.visits.list c.turn_away.result c.requires c.turn_away.ensures
