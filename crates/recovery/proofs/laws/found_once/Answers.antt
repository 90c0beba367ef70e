use Rattle.recovery.proofs.FoundOnce.{found_once}
use Rattle.recovery.proofs.laws.found_once.Goals as goal

pub returns : goal.returns
returns c = found_once
