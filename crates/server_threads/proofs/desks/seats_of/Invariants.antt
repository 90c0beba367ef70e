use Rattle.std.proofs.Common.{◌≡◌, ◌+◌, length}
use Rattle.std.specs.Prelude.{All}
use Rattle.server_threads.proofs.desks.seats_of.Given as goal

-- so many seats were given, and the others are left
abbrev pub invariant-loop-i : goal.invariant-loop-i
invariant-loop-i g l = record {
  left : l.board.left + l.i ≡ l.fn.board.left;
  new : All (λ seat. seat ≡ 0) l.seats.items;
  all : length l.seats.items ≡ l.i;
  board : l.board.progress ≡ l.fn.board.progress;
}
