use Rattle.std.proofs.Common.{◌≡◌, true, length}
use Rattle.sockets.specs.Host.{are_unasked}
use Rattle.sockets.proofs.lobby.Places.into_away.Given as goal

-- nothing was read from those who were turned away so far, and nothing written to them
abbrev pub invariant-loop-peer : goal.invariant-loop-peer
invariant-loop-peer g l = are_unasked l.away.visits.list ≡ true

abbrev pub decreases-loop-peer : goal.decreases-loop-peer
decreases-loop-peer g l = length l.waiting.items
