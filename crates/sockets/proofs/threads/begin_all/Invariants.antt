use Rattle.std.proofs.Common.{◌≡◌, ◌≤◌, ◌+◌, ◌++◌, length}
use Rattle.std.specs.Prelude.{vec_items, vec_len, vec_capacity}
use Rattle.std.specs.Vec.Iter.{into_iter_items, into_iter_len}
use Rattle.sockets.specs.Begun.{AreBegun}
use Rattle.sockets.proofs.threads.begin_all.Given as goal

-- the desks so far were begun, the iterator has the others, and there is room for them
abbrev pub invariant-loop-desk : goal.invariant-loop-desk
invariant-loop-desk g l = record {
  begun : AreBegun g.K.Desk.does l.hall.ended.id l.yielded (vec_items l.begun);
  others : l.yielded ++ into_iter_items l.desk-iterator ≡ vec_items l.fn.desks;
  count : into_iter_len l.desk-iterator ≡ length (into_iter_items l.desk-iterator);
  room : vec_len l.begun + into_iter_len l.desk-iterator ≤ vec_capacity l.begun;
}
