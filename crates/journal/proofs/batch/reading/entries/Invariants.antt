use Rattle.std.proofs.Common.{◌≡◌, ◌-◌}
use Rattle.journal.specs.steps.BatchReading.{entries_at}
use Rattle.journal.proofs.Entries.{behind}
use Rattle.journal.proofs.batch.reading.entries.Given as goal

-- what was read and what is left to read are all that is read
abbrev pub invariant-loop : goal.invariant-loop
invariant-loop l = behind l.batch.items (entries_at (l.count - l.counter) l.rest) ≡ entries_at l.count l.bytes
