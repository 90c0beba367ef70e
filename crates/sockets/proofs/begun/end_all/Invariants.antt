use Rattle.std.proofs.Common.{◌≡◌, ◌≤◌, ◌+◌, ◌++◌, length}
use Rattle.std.specs.Prelude.{vec_items, vec_len, vec_capacity}
use Rattle.std.specs.Vec.Iter.{into_iter_items, into_iter_len}
use Rattle.sockets.specs.Begun.{EndAs}
use Rattle.sockets.proofs.begun.end_all.Given as goal

-- those so far have ended, the iterator has the others, and there is room for what comes of them
abbrev pub invariant-loop-one : goal.invariant-loop-one
invariant-loop-one g l = record {
  ended : EndAs g.P.Promise l.yielded (vec_items l.ended);
  others : l.yielded ++ into_iter_items l.one-iterator ≡ vec_items l.fn.begun;
  count : into_iter_len l.one-iterator ≡ length (into_iter_items l.one-iterator);
  room : vec_len l.ended + into_iter_len l.one-iterator ≤ vec_capacity l.ended;
}
