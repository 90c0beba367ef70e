use Rattle.delta.proofs.Effects.{apply-built}
use Rattle.delta.proofs.laws.effect_of_built.Goals as goal

pub returns : goal.returns
returns c = apply-built
