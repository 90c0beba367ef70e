use Rattle.delta.proofs.Lengths.{IsBounded-nf}
use Rattle.delta.proofs.laws.bound_of_normal.Goals as goal

pub returns : goal.returns
returns c = IsBounded-nf
