use Rattle.delta.proofs.Normality.{built-spelled_settled}
use Rattle.delta.proofs.laws.spelled_is_built.Goals as goal

pub returns : goal.returns
returns c = built-spelled_settled
