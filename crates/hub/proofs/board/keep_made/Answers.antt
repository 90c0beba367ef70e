use Rattle.std.proofs.Common.{rules}
use Rattle.world.specs.World.{entry_of}
use Rattle.hub.proofs.Making.{keeps_taken, keeps_again}
use Rattle.hub.proofs.Placing.{TakenLast, WasBefore, taken_last, was_before}
use Rattle.hub.proofs.board.keep_made.Goals as goal

pub returns-in-Taken : goal.returns-in-Taken
returns-in-Taken g c =
    let last : TakenLast g.L.Life.start c.args.order.now c.args.ticket.now c.args.progress.now c.in-Taken.rev =
    taken_last g.L.Life.start c.args.order.now c.args.ticket.now c.args.progress.now c.requires.given c.in-Taken.rev (search rules) in
    keeps_taken g.L.Life.start c.args.order.now c.args.ticket.now c.args.progress.now c.requires.given c.in-Taken.rev last c.last_ordered.result.now c.args.made.now.items
    c.keep_last.new.made.items (c.last_ordered.ensures c.args.order.now (entry_of c.args.ticket.now.command last.taken) last.longer last.within) c.requires.made c.keep_last.ensures

pub returns-in-Again : goal.returns-in-Again
returns-in-Again g c =
    let before : WasBefore g.L.Life.start c.args.order.now c.args.ticket.now c.args.progress.now c.in-Again.rev =
    was_before g.L.Life.start c.args.order.now c.args.ticket.now c.args.progress.now c.requires.given c.in-Again.rev (search rules) in
    keeps_again g.L.Life.start c.args.order.now c.args.ticket.now c.args.progress.now c.requires.given c.in-Again.rev before c.args.made.now.items c.requires.made
