use Rattle.delta.proofs.Normality.{IsNormal-nf}
use Rattle.delta.proofs.laws.normal_is_normal.Goals as goal

pub returns : goal.returns
returns c = IsNormal-nf
