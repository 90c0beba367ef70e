use Rattle.std.proofs.Common.{take}
use Rattle.std.specs.Prelude.{Contains}
use Rattle.recovery.specs.Jobs.{jobs_of}
use Rattle.recovery.proofs.jobs.Jobs.is_kept.Given as goal

abbrev pub invariant-loop-kept : goal.invariant-loop-kept
invariant-loop-kept l = ¬ Contains (take l.kept-index (jobs_of l.self)) l.job
