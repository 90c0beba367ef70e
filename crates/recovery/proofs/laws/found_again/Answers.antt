use Rattle.recovery.proofs.Runs.{found_again}
use Rattle.recovery.proofs.laws.found_again.Goals as goal

pub returns : goal.returns
returns c = found_again
