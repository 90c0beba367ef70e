use Rattle.std.proofs.Common.{◌≡◌, length}
use Rattle.turns.proofs.Marks.{AreUnset}
use Rattle.turns.proofs.queue.Queue.new.Given as goal

abbrev pub invariant-loop : goal.invariant-loop
invariant-loop l = record {
  many : length l.is_in.items ≡ l.counter;
  unset : AreUnset l.is_in.items;
}
