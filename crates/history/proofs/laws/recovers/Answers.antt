use Rattle.history.proofs.Recovering.{recovers, reopens}
use Rattle.history.proofs.laws.recovers.Goals as goal

pub returns-clause-found : goal.returns-clause-found
returns-clause-found c = recovers

pub returns-clause-again : goal.returns-clause-again
returns-clause-again c = reopens
