use Rattle.std.proofs.Common.{◌≡◌, ◌+◌, ◌++◌, length, reverse}
use Rattle.document.proofs.building.split_half.Given as goal

abbrev pub invariant-loop : goal.invariant-loop
invariant-loop l = record {
  parts : l.runs.items ++ reverse l.back.items ≡ l.initial.runs.items;
  front : length l.runs.items + l.counter ≡ length l.initial.runs.items + l.half;
  back : length l.back.items + l.half ≡ l.counter;
  end : l.end ≡ length l.initial.runs.items;
}
