use Rattle.history.proofs.Recovering.{showing_agree}
use Rattle.history.proofs.laws.showing_agree.Goals as goal

pub returns : goal.returns
returns c = showing_agree
