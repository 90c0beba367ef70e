use Rattle.recovery.proofs.Going.{open_unchanged, found_now}
use Rattle.recovery.proofs.laws.open_now.Goals as goal

pub returns-clause-unchanged : goal.returns-clause-unchanged
returns-clause-unchanged g c old new = open_unchanged

pub returns-clause-found : goal.returns-clause-found
returns-clause-found g c = found_now
