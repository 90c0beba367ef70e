use Rattle.history.proofs.OneState.{at_most_one}
use Rattle.history.proofs.Recovering.{stand_is_state}
use Rattle.history.proofs.laws.stand.Goals as goal

pub returns-clause-one : goal.returns-clause-one
returns-clause-one c = at_most_one

pub returns-clause-state : goal.returns-clause-state
returns-clause-state c = stand_is_state
