use Rattle.std.proofs.Common.{◌≡◌, take}
use Rattle.session.specs.Replies.{Asks}
use Rattle.session.specs.Ahead.{commands_of, exchanges_of}
use Rattle.session.specs.Shelf.{IsLater}
use Rattle.session.proofs.desk.Desk.ask_all.Given as goal

-- the commands so far were asked, and all of them are still these
abbrev pub invariant-loop-i : goal.invariant-loop-i
invariant-loop-i g l = record {
  commands : commands_of l.sent.items ≡ commands_of l.fn.sent.items;
  asks : Asks g.Self.Desk.does l.fn.self (exchanges_of (take l.i l.sent.items)) l.self;
  later : IsLater (g.Self.Desk.reached l.fn.self) (g.Self.Desk.reached l.self);
}
