use Rattle.session.proofs.Whole.{long_line}
use Rattle.session.proofs.laws.long_line.Goals as goal

pub returns : goal.returns
returns c = long_line
