use Rattle.revision.proofs.Cutting.{cut_stays, cut_weighs}
use Rattle.revision.proofs.laws.last_numbers.Goals as goal

pub returns-clause-stay : goal.returns-clause-stay
returns-clause-stay c = cut_stays

pub returns-clause-weigh : goal.returns-clause-weigh
returns-clause-weigh c = cut_weighs
