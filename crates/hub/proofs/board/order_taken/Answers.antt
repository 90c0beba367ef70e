use Rattle.std.proofs.Common.{rules}
use Rattle.hub.proofs.Placing.{placed_taken}
use Rattle.hub.proofs.board.order_taken.Goals as goal

pub returns-in-Taken-clause-placed : goal.returns-in-Taken-clause-placed
returns-in-Taken-clause-placed g c =
    placed_taken g.L.Life.start c.args.order.now c.args.ticket.now c.args.progress.now c.requires c.in-Taken.rev (search rules) c.put.new.self (search rules)
