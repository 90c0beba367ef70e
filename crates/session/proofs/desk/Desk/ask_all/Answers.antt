use Rattle.std.proofs.Common.{◌<◌, ◌∙◌, length, rules}
use Rattle.session.proofs.Later.{later_still}
use Rattle.session.proofs.Sending.{asked_more}
use Rattle.session.proofs.desk.Desk.ask_all.Goals as goal

pub loop-i-preserved : goal.loop-i-preserved
loop-i-preserved g c =
    let so_far = c.loop-i.invariant in
    let within : c.loop-i.i < length c.loop-i.sent.items = search rules in
    let more = asked_more g.Self.Desk.does c.args.self.now c.loop-i.self c.ask-answer.new.self c.loop-i.sent.items c.loop-i.i c.index.result.now c.index_mut.result.now c.ask-answer.result
    within c.index.ensures c.index_mut.ensures.value so_far.asks c.ask-answer.ensures.answered in
    record {
      commands = more.0 ∙ so_far.commands;
      asks = more.1;
      later = later_still (g.Self.Desk.reached c.args.self.now) (g.Self.Desk.reached c.loop-i.self) (g.Self.Desk.reached c.ask-answer.new.self) so_far.later c.ask-answer.ensures.later;
    }
