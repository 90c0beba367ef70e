use Rattle.std.proofs.Common.{◌≡◌, ◌++◌, length, take}
use Rattle.std.specs.Int.{w32}
use Rattle.std.specs.List.{flat_map}
use Rattle.journal.specs.Spelling.{number}
use Rattle.journal.specs.DeltaSpelling.{operation}
use Rattle.journal.proofs.batch.writing.operations.write_delta.Given as goal

-- the count is written, and each operation so far
abbrev pub invariant-loop-op : goal.invariant-loop-op
invariant-loop-op l =
    l.out.items ≡ l.fn.out.items ++ (number w32 (length l.ops) ++ flat_map operation (take l.op-index l.ops))
