use Rattle.recovery.proofs.Going.{goes_none, goes_still, goes_on}
use Rattle.recovery.proofs.laws.calls_go_on.Goals as goal

pub returns-clause-none : goal.returns-clause-none
returns-clause-none g c = goes_none

pub returns-clause-in_memory : goal.returns-clause-in_memory
returns-clause-in_memory g c old new = goes_still

pub returns-clause-run : goal.returns-clause-run
returns-clause-run g c old mid new = goes_on
