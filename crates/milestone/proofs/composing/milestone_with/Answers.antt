use Rattle.std.proofs.Common.{◌≡◌, true, sym, subst}
use Rattle.revision.specs.Past.{Content, is_content}
use Rattle.milestone.specs.Job.{cell_of_job}
use Rattle.milestone.proofs.composing.milestone_with.Goals as goal

pub new-requires-clause-content : goal.new-requires-clause-content
new-requires-clause-content c =
    let same : ◌≡◌ {A = Content} (record { units = c.args.document; live = c.is_live-live.result }) (cell_of_job c.args.job.now).content =
    λ i. record { units = c.requires i; live = c.is_live-live.ensures.live i } in
    subst (λ (k : Content). is_content k ≡ true) (sym same) c.is_live-live.ensures.job.milestone.content
