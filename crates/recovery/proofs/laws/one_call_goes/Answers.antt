use Rattle.recovery.proofs.Going.{goes_call}
use Rattle.recovery.proofs.laws.one_call_goes.Goals as goal

pub returns : goal.returns
returns g c old new = goes_call
