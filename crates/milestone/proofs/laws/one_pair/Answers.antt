use Rattle.milestone.proofs.OnePair.{one_pair}
use Rattle.milestone.proofs.laws.one_pair.Goals as goal

pub returns : goal.returns
returns c = one_pair
