use Rattle.std.proofs.Common.{◌≡◌, take}
use Rattle.revision.specs.State.{State}
use Rattle.session.specs.Replies.{Asks}
use Rattle.session.specs.Ahead.{commands_of, exchanges_of}
use Rattle.hub_desk.specs.AtHub.{Desk, PassesAtHub}
use Rattle.hub_desk.proofs.desk.refuse_all.Given as goal

abbrev pub invariant-loop-i : goal.invariant-loop-i
invariant-loop-i l = record {
  commands : commands_of l.sent.items ≡ commands_of l.fn.sent.items;
  refused : (start : State) (desk : Desk) → Asks (PassesAtHub start) desk (exchanges_of (take l.i l.sent.items)) desk;
}
