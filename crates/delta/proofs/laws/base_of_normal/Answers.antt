use Rattle.delta.proofs.Lengths.{base_of-nf}
use Rattle.delta.proofs.laws.base_of_normal.Goals as goal

pub returns : goal.returns
returns c = base_of-nf
