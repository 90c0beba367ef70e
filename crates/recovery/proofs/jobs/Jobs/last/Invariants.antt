use Rattle.std.proofs.Common.{◌≡◌, drop}
use Rattle.recovery.specs.Jobs.{jobs_of, last_job}
use Rattle.recovery.proofs.jobs.Jobs.last.Given as goal

abbrev pub invariant-loop-kept : goal.invariant-loop-kept
invariant-loop-kept l = last_job l.document (jobs_of l.self) ≡ last_job l.document (drop l.kept-index (jobs_of l.self))
