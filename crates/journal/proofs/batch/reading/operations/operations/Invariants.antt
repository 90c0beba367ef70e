use Rattle.std.proofs.Common.{◌≡◌, ◌-◌, []}
use Rattle.journal.specs.steps.DeltaReading.{operations_at}
use Rattle.journal.proofs.batch.reading.operations.operations.Given as goal

-- what was read and what is left to read are all that is read
abbrev pub invariant-loop : goal.invariant-loop
invariant-loop l = operations_at (l.count - l.counter) l.ops.items l.rest ≡ operations_at l.count [] l.bytes
