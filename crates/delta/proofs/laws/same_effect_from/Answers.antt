use Rattle.delta.proofs.SameEffects.{same_effect_from}
use Rattle.delta.proofs.laws.same_effect_from.Goals as goal

pub returns : goal.returns
returns c = same_effect_from
