use Rattle.std.proofs.Common.{◌≡◌, ◌≤◌, ◌+◌, ◌++◌, length}
use Rattle.std.specs.Prelude.{map, vec_items, vec_len, vec_capacity}
use Rattle.std.specs.Vec.Iter.{into_iter_items, into_iter_len}
use Rattle.sockets.specs.Attendance.{count_all, lists_of}
use Rattle.sockets.specs.Door.{accounted_for, taken_in}
use Rattle.sockets.proofs.desks.part_all.Given as goal

-- the desks so far are apart from their visits, which are accounted for; the iterator has the others, and there is room for them
abbrev pub invariant-loop-attendant : goal.invariant-loop-attendant
invariant-loop-attendant g l = record {
  desks : vec_items l.seats.desks ≡ map (λ one. one.desk) l.yielded;
  visits : lists_of (vec_items l.seats.visits) ≡ map (λ one. one.guests.visits.list) l.yielded;
  taken : taken_in l.door ≡ taken_in l.fn.door;
  accounted : accounted_for l.door ≡ accounted_for l.fn.door + count_all (lists_of (vec_items l.seats.visits));
  others : l.yielded ++ into_iter_items l.attendant-iterator ≡ vec_items l.fn.attendants;
  count : into_iter_len l.attendant-iterator ≡ length (into_iter_items l.attendant-iterator);
  room : (vec_len l.seats.desks + into_iter_len l.attendant-iterator ≤ vec_capacity l.seats.desks)
      × (vec_len l.seats.visits + into_iter_len l.attendant-iterator ≤ vec_capacity l.seats.visits);
}
