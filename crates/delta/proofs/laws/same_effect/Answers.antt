use Rattle.delta.proofs.SameEffects.{same_effect}
use Rattle.delta.proofs.laws.same_effect.Goals as goal

pub returns : goal.returns
returns c = same_effect
