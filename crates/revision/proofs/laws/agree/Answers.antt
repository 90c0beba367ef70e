use Rattle.revision.proofs.Agreeing.{agrees, agree_turned, agree_through}
use Rattle.revision.proofs.laws.agree.Goals as goal

pub returns-clause-same : goal.returns-clause-same
returns-clause-same c = agrees

pub returns-clause-turned : goal.returns-clause-turned
returns-clause-turned c = agree_turned

pub returns-clause-through : goal.returns-clause-through
returns-clause-through c = agree_through
