use Rattle.delta.proofs.BuiltLists.{nf-built}
use Rattle.delta.proofs.laws.normal_of_built.Goals as goal

pub returns : goal.returns
returns c = nf-built
