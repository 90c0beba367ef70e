use Rattle.std.proofs.Common.{◌<◌, ◌≤◌, ◌∙◌, length, ap, rules}
use Rattle.session.specs.Ahead.{commands_of}
use Rattle.hub_desk.specs.AtHub.{Desk}
use Rattle.hub_desk.proofs.Tickets.{answered_more, answered_whole, commands_same}
use Rattle.hub_desk.proofs.desk.HubDesk.answer_all.Goals as goal

pub loop-i-preserved : goal.loop-i-preserved
loop-i-preserved g c =
    let so_far = c.loop-i.invariant in
    let asked = c.index.result.now in
    let item = c.index_mut.result.now in
    let new = c.answer_by-answer.new.self in
    let ticked : c.loop-i.i < length c.args.tickets.now = search rules in
    let within : c.loop-i.i < length c.loop-i.sent.items = search rules in
    record {
      commands = commands_same c.loop-i.sent.items c.loop-i.i item c.answer_by-answer.result c.index_mut.ensures.value ∙ so_far.commands;
      others = c.answer_by-answer.ensures.others ∙ ap (λ (d : Desk). record d { told = new.told; stopped = new.stopped }) so_far.others;
      asks = answered_more g.L.Life.start c.args.self.now c.loop-i.self new c.loop-i.sent.items (commands_of c.args.sent.now.items) c.args.tickets.now c.loop-i.i asked item
          c.index-tickets-i.result c.answer_by-answer.result within ticked c.index.ensures c.index_mut.ensures.value c.index-tickets-i.is so_far.commands
          (ap (λ (d : Desk). d.shown) so_far.others) so_far.asks c.answer_by-answer.ensures.answer;
    }

pub returns-clause-answered : goal.returns-clause-answered
returns-clause-answered g c =
    let all : length c.loop-i.sent.items ≤ c.loop-i.i = search rules in
    let ticked : length c.args.tickets.now ≤ c.loop-i.i = search rules in
    answered_whole g.L.Life.start c.args.self.now c.loop-i.self c.loop-i.sent.items (commands_of c.args.sent.now.items) c.args.tickets.now c.loop-i.i all ticked
    c.loop-i.invariant.commands c.loop-i.invariant.asks
