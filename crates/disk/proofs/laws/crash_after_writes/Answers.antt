use Rattle.disk.proofs.Apart.{left_by_writes, left_mixed}
use Rattle.disk.proofs.laws.crash_after_writes.Goals as goal

pub returns-clause-writes : goal.returns-clause-writes
returns-clause-writes c = left_by_writes

pub returns-clause-mixed : goal.returns-clause-mixed
returns-clause-mixed c = left_mixed
