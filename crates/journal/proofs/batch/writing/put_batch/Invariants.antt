use Rattle.std.proofs.Common.{◌≡◌, ◌++◌, All, length, take}
use Rattle.std.specs.Int.{w32}
use Rattle.std.specs.List.{flat_map}
use Rattle.revision.specs.Command.{IsTaken}
use Rattle.journal.specs.Spelling.{number}
use Rattle.journal.specs.BatchSpelling.{entry}
use Rattle.journal.proofs.batch.writing.put_batch.Given as goal

-- the count is written, and each command so far, which was taken
abbrev pub invariant-loop-taken : goal.invariant-loop-taken
invariant-loop-taken l = record {
  spelled : l.out.items ≡ l.fn.out.items ++ (number w32 (length l.batch) ++ flat_map entry (take l.taken-index l.batch));
  taken : All IsTaken (take l.taken-index l.batch);
}
