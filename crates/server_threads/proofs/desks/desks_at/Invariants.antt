use Rattle.std.proofs.Common.{◌≡◌, ◌+◌, length}
use Rattle.std.specs.Prelude.{All}
use Rattle.std.specs.Vec.Iter.{into_iter_items}
use Rattle.server_threads.specs.Answers.{first_desk}
use Rattle.server_threads.proofs.desks.desks_at.Given as goal

-- each seat so far has its desk, or is tallied, and the others have counted nothing
abbrev pub invariant-loop-seat : goal.invariant-loop-seat
invariant-loop-seat g l = record {
  new : All (λ seat. seat ≡ 0) (into_iter_items l.seat-iterator);
  first : All (λ desk. desk ≡ first_desk) l.desks.items;
  all : length l.desks.items + (l.tally.seats + length (into_iter_items l.seat-iterator)) ≡ length l.fn.seats.items + l.fn.tally.seats;
  none : l.tally.counted ≡ l.fn.tally.counted;
}
