use Rattle.published.proofs.Orders.{legal_more, begun_grows}
use Rattle.published.proofs.laws.histories.Goals as goal

pub returns-clause-more : goal.returns-clause-more
returns-clause-more c = legal_more

pub returns-clause-grow : goal.returns-clause-grow
returns-clause-grow c = begun_grows
