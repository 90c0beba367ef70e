use Rattle.milestone.proofs.Holding.{agree_within}
use Rattle.milestone.proofs.laws.agree_within.Goals as goal

pub returns : goal.returns
returns c = agree_within
