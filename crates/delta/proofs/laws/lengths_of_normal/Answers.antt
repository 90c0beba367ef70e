use Rattle.delta.proofs.Lengths.{lengths-nf}
use Rattle.delta.proofs.laws.lengths_of_normal.Goals as goal

pub returns : goal.returns
returns c = lengths-nf
