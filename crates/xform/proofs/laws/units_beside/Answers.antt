use Rattle.xform.proofs.Afterwards.{units_below-beside}
use Rattle.xform.proofs.laws.units_beside.Goals as goal

pub returns : goal.returns
returns c = units_below-beside
