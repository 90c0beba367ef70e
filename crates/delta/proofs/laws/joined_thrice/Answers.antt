use Rattle.delta.proofs.Joins.{joined-joined}
use Rattle.delta.proofs.laws.joined_thrice.Goals as goal

pub returns : goal.returns
returns c = joined-joined
