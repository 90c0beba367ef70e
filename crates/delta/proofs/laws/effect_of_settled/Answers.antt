use Rattle.delta.proofs.Effects.{apply-settled}
use Rattle.delta.proofs.laws.effect_of_settled.Goals as goal

pub returns : goal.returns
returns c = apply-settled
