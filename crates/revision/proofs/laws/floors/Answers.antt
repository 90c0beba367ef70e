use Rattle.revision.proofs.Changing.{from_itself, from_twice, from_newest, from_longer, step_makes}
use Rattle.revision.proofs.laws.floors.Goals as goal

pub returns-clause-itself : goal.returns-clause-itself
returns-clause-itself c = from_itself

pub returns-clause-twice : goal.returns-clause-twice
returns-clause-twice c = from_twice

pub returns-clause-newest : goal.returns-clause-newest
returns-clause-newest c = from_newest

pub returns-clause-longer : goal.returns-clause-longer
returns-clause-longer c = from_longer

pub returns-clause-step : goal.returns-clause-step
returns-clause-step c = step_makes
