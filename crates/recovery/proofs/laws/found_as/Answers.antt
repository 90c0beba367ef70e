use Rattle.recovery.proofs.Runs.{found_as}
use Rattle.recovery.proofs.laws.found_as.Goals as goal

pub returns : goal.returns
returns c = found_as
