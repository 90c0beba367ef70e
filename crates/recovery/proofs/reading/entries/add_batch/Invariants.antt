use Rattle.std.proofs.Common.{◌≡◌, ◌++◌, length}
use Rattle.std.specs.Vec.Iter.{into_iter_items, into_iter_len}
use Rattle.recovery.specs.steps.Reading.{lists_of, AreAdded}
use Rattle.recovery.proofs.reading.entries.add_batch.Given as goal

-- the commands so far are added, and the iterator has the others
abbrev pub invariant-loop-taken : goal.invariant-loop-taken
invariant-loop-taken l = record {
  added : AreAdded l.yielded (lists_of l.fn.lists) (lists_of l.lists);
  others : l.yielded ++ into_iter_items l.taken-iterator ≡ l.fn.batch.items;
  count : into_iter_len l.taken-iterator ≡ length (into_iter_items l.taken-iterator);
}
