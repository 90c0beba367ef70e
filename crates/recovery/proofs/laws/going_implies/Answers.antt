use Rattle.recovery.proofs.Going.{goes_map}
use Rattle.recovery.proofs.laws.going_implies.Goals as goal

pub returns : goal.returns
returns g c old new = goes_map
