use Rattle.std.proofs.Common.{◌≡◌, length}
use Rattle.sockets.specs.Idle.{has_end}
use Rattle.sockets.proofs.patience.ends_line.Given as goal

-- no line ends in front of the rest
abbrev pub invariant-loop-byte : goal.invariant-loop-byte
invariant-loop-byte l = has_end l.fn.piece ≡ has_end l.rest

abbrev pub decreases-loop-byte : goal.decreases-loop-byte
decreases-loop-byte l = length l.rest
