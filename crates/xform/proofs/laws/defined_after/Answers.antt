use Rattle.xform.proofs.Afterwards.{defined_after}
use Rattle.xform.proofs.laws.defined_after.Goals as goal

pub returns : goal.returns
returns c = defined_after
