use Rattle.std.proofs.Common.{◌≡◌, take}
use Rattle.session.specs.Ahead.{commands_of, exchanges_of}
use Rattle.hub_desk.proofs.Tickets.{AnswersSoFar}
use Rattle.hub_desk.proofs.desk.HubDesk.answer_all.Given as goal

-- the commands so far were answered by their submissions
abbrev pub invariant-loop-i : goal.invariant-loop-i
invariant-loop-i g l = record {
  commands : commands_of l.sent.items ≡ commands_of l.fn.sent.items;
  others : l.self ≡ record l.fn.self { told = l.self.told; stopped = l.self.stopped };
  asks : AnswersSoFar g.L.Life.start l.fn.self (commands_of l.fn.sent.items) l.tickets l.i (exchanges_of (take l.i l.sent.items)) l.self;
}
