use Rattle.std.proofs.Common.{◌≡◌, ◌++◌, take}
use Rattle.std.specs.Int.{w64}
use Rattle.std.specs.List.{flat_map}
use Rattle.journal.specs.Spelling.{number}
use Rattle.milestone.proofs.writing.write_numbers.Given as goal

-- each number so far is written
abbrev pub invariant-loop-number : goal.invariant-loop-number
invariant-loop-number l = l.out.items ≡ l.fn.out.items ++ flat_map (number w64) (take l.number-index l.numbers)
