use Rattle.std.proofs.Common.{◌∙◌, List, take, sym, ap, arith}
use Rattle.std.proofs.lemmas.List.{take_all}
use Rattle.milestone.specs.Job.{Job}
use Rattle.recovery.specs.declared.group.Member.{Member}
use Rattle.recovery.specs.Jobs.{jobs_of, without_job}
use Rattle.recovery.specs.steps.Group.{outside_jobs}
use Rattle.recovery.proofs.DroppedJobs.{outside_none, outside_more}
use Rattle.recovery.proofs.group.drop_jobs.Goals as goal

pub loop-member-init : goal.loop-member-init
loop-member-init c = sym (outside_none (jobs_of c.args.jobs.now))

pub loop-member-preserved : goal.loop-member-preserved
loop-member-preserved c =
    let m = c.member-item.result in
    c.forget.ensures
    ∙ (ap (λ (l : List Job). without_job m.document l) c.loop-member.invariant
    ∙ outside_more c.args.members.now c.loop-member.member-index m (jobs_of c.args.jobs.now) c.loop-member-test.true (sym c.member-item.is))

pub returns : goal.returns
returns c =
    c.loop-member.invariant
    ∙ ap (λ (l : List Member). outside_jobs l (jobs_of c.args.jobs.now)) (take_all c.loop-member.member-index c.args.members.now (omega (arith, c.loop-member-test.false)))
