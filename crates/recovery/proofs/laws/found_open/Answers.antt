use Rattle.recovery.proofs.Runs.{found_open}
use Rattle.recovery.proofs.laws.found_open.Goals as goal

pub returns : goal.returns
returns g c = found_open
