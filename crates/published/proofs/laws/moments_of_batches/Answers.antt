use Rattle.published.proofs.Timed.{moments_long, moments_first, moments_last}
use Rattle.published.proofs.laws.moments_of_batches.Goals as goal

pub returns-clause-long : goal.returns-clause-long
returns-clause-long c = moments_long

pub returns-clause-first : goal.returns-clause-first
returns-clause-first c = moments_first

pub returns-clause-last : goal.returns-clause-last
returns-clause-last c = moments_last
