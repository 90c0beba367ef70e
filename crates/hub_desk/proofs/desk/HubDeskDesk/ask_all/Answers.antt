use Rattle.std.proofs.Common.{List, subst}
use Rattle.hub.specs.Found.{AreSubmittedAfter}
use Rattle.session.specs.declared.sent.Sent.{Sent}
use Rattle.session.specs.Replies.{Asks}
use Rattle.session.specs.Ahead.{commands_of, exchanges_of}
use Rattle.hub_desk.specs.AtHub.{Desk, PassesAtHub}
use Rattle.hub_desk.proofs.Tickets.{asked_all}
use Rattle.hub_desk.proofs.desk.HubDeskDesk.ask_all.Goals as goal

pub returns-in-Ok-clause-answered : goal.returns-in-Ok-clause-answered
returns-in-Ok-clause-answered g c =
    asked_all g.L.Life.start c.args.self.now c.submit_all.new.self c.answer_all.new.self (commands_of c.args.sent.now.items) (exchanges_of c.answer_all.new.sent.items) c.in-Ok.tickets.items
    c.deref-in-Ok.result.now
    (subst (λ (l : List Sent). AreSubmittedAfter g.L.Life.start c.args.self.now.shown c.args.self.now.found (commands_of l) c.in-Ok.tickets.items c.submit_all.new.self.found)
    c.deref.ensures.value c.in-Ok.ensures.after) c.in-Ok.ensures.counts c.answer_all.ensures.others c.deref-in-Ok.ensures.value c.answer_all.ensures.answered

pub returns-in-Err-clause-answered : goal.returns-in-Err-clause-answered
returns-in-Err-clause-answered g c =
    subst (λ (d : Desk). Asks (PassesAtHub g.L.Life.start) d (exchanges_of c.refuse_all.new.sent.items) c.submit_all.new.self) c.in-Err.ensures.unchanged
    (c.refuse_all.ensures.refused g.L.Life.start c.submit_all.new.self)
