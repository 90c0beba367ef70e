use Rattle.delta.proofs.Lengths.{lengths-built}
use Rattle.delta.proofs.laws.lengths_of_built.Goals as goal

pub returns : goal.returns
returns c = lengths-built
