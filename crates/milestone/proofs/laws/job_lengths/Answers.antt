use Rattle.milestone.proofs.Lengths.{pasts_keep_lengths}
use Rattle.milestone.proofs.laws.job_lengths.Goals as goal

pub returns : goal.returns
returns c = pasts_keep_lengths
