use Rattle.std.proofs.Common.{◌≡◌, ◌++◌, None, List, ℕ, length}
use Rattle.sockets.specs.Outgoing.{contents_of}
use Rattle.sockets.proofs.outgoing.OutgoingOutput.put.Given as goal

-- no write has failed, and what stands in front of the rest is written or held back
abbrev pub invariant-loop-rest : goal.invariant-loop-rest
invariant-loop-rest g l = record {
  works : l.self.cut ≡ None;
  front : (done : List ℕ) × (l.bytes ≡ done ++ l.rest) × (contents_of l.self ≡ contents_of l.fn.self ++ done);
}

abbrev pub decreases-loop-rest : goal.decreases-loop-rest
decreases-loop-rest g l = length l.rest
