use Rattle.std.proofs.Common.{◌≡◌, take}
use Rattle.recovery.specs.Jobs.{jobs_of}
use Rattle.recovery.specs.steps.Group.{outside_jobs}
use Rattle.recovery.proofs.group.drop_jobs.Given as goal

abbrev pub invariant-loop-member : goal.invariant-loop-member
invariant-loop-member l = jobs_of l.jobs ≡ outside_jobs (take l.member-index l.members) (jobs_of l.fn.jobs)
