use Rattle.std.proofs.Common.{◌≡◌, ◌-◌, None, length}
use Rattle.sockets.specs.Outgoing.{contents_of}
use Rattle.sockets.proofs.outgoing.Outgoing.send.Given as goal

-- no write has failed, and what was written and what is left are the same together
abbrev pub invariant-loop-self : goal.invariant-loop-self
invariant-loop-self g l = record {
  works : l.self.cut ≡ None;
  kept : contents_of l.self ≡ contents_of l.fn.self;
}

abbrev pub decreases-loop-self : goal.decreases-loop-self
decreases-loop-self g l = length l.self.held.items - l.self.sent
