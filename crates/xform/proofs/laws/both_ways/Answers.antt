use Rattle.xform.proofs.Afterwards.{both_ways}
use Rattle.xform.proofs.laws.both_ways.Goals as goal

pub returns : goal.returns
returns c = both_ways
