use Rattle.session.proofs.Whole.{whole_line}
use Rattle.session.proofs.laws.whole_line.Goals as goal

pub returns : goal.returns
returns c = whole_line
