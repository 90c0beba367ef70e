use Rattle.std.proofs.Common.{◌≡◌, ◌≤◌, take, length, vec_len, vec_capacity}
use Rattle.hub.specs.Found.{AreSubmittedAfter}
use Rattle.hub.specs.Submitted.{counted_all}
use Rattle.hub.specs.Waiting.{OrdersAlone}
use Rattle.hub.proofs.Submitting.{lent}
use Rattle.hub.proofs.locked.Locked.submit_all_after.Given as goal

-- the commands so far were submitted, and there is room for the others
abbrev pub invariant-loop-i : goal.invariant-loop-i
invariant-loop-i g l = record {
  after : AreSubmittedAfter g.L.Life.start l.told l.fn.found (lent (take l.i l.commands)) l.answers.items l.found;
  counts : l.seat ≡ counted_all l.fn.seat l.answers.items;
  so_many : vec_len l.answers ≡ l.i;
  room : length l.commands ≤ vec_capacity l.answers;
  others : OrdersAlone l.fn.self l.self;
}
