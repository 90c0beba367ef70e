use Rattle.milestone.proofs.Stepping.{ready_within}
use Rattle.milestone.proofs.laws.ready_within.Goals as goal

pub returns : goal.returns
returns c = ready_within
