use Rattle.std.proofs.Common.{◌≡◌, ◌+◌, ◌-◌, ◌^◌, All, min, sum_by, take}
use Rattle.revision.specs.Command.{IsTaken, width_of}
use Rattle.journal.proofs.batch.writing.batch_len.Given as goal

-- the length so far, of commands that were taken
abbrev pub invariant-loop-taken : goal.invariant-loop-taken
invariant-loop-taken l = record {
  len : l.len ≡ min (4 + sum_by width_of (take l.taken-index l.batch)) (2 ^ 64 - 1);
  taken : All IsTaken (take l.taken-index l.batch);
}
