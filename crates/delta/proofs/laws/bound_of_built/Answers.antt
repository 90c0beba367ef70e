use Rattle.delta.proofs.Lengths.{IsBounded-built}
use Rattle.delta.proofs.laws.bound_of_built.Goals as goal

pub returns : goal.returns
returns c = IsBounded-built
