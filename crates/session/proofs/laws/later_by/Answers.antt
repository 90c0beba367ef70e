use Rattle.session.proofs.Later.{later_by}
use Rattle.session.proofs.laws.later_by.Goals as goal

pub returns : goal.returns
returns g c = later_by
