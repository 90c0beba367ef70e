use Rattle.std.proofs.Common.{◌≡◌, length, []}
use Rattle.recovery.specs.steps.Reading.{lists_of, AreByDocument}
use Rattle.recovery.proofs.reading.entries.empty_lists.Given as goal

abbrev pub invariant-loop : goal.invariant-loop
invariant-loop l = record {
  empty : AreByDocument [] (lists_of l.lists.items);
  count : length l.lists.items ≡ l.counter;
}
