use Rattle.delta.proofs.SameEffects.{normal_of_same_effect}
use Rattle.delta.proofs.laws.normal_of_same_effect.Goals as goal

pub returns : goal.returns
returns c = normal_of_same_effect
