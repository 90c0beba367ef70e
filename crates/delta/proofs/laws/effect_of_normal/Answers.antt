use Rattle.delta.proofs.Effects.{apply-nf}
use Rattle.delta.proofs.laws.effect_of_normal.Goals as goal

pub returns : goal.returns
returns c = apply-nf
