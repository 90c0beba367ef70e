use Rattle.std.proofs.Common.{◌≡◌, ◌+◌, ◌++◌, List}
use Rattle.sockets.specs.Socket.{Event, came}
use Rattle.sockets.specs.Door.{accounted_for, taken_in}
use Rattle.sockets.proofs.accepting.accept_each.Given as goal

-- each connection that came so far has a part, and the calls of the listener so far stand behind those before
abbrev pub invariant-peers : goal.invariant-peers
invariant-peers g l = record {
  counted : came (g.N.Listen.arrivals l.listener) + taken_in l.fn.door ≡ came (g.N.Listen.arrivals l.fn.listener) + taken_in l.door;
  accounted : accounted_for l.door ≡ accounted_for l.fn.door;
  since : (since : List Event) × (g.N.Listen.arrivals l.listener ≡ since ++ g.N.Listen.arrivals l.fn.listener);
}
