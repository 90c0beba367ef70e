use Rattle.revision.proofs.Taking.{taken_grows}
use Rattle.revision.proofs.laws.taken_grows.Goals as goal

pub returns : goal.returns
returns c = taken_grows
