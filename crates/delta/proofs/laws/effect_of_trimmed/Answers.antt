use Rattle.delta.proofs.Effects.{apply-trimmed}
use Rattle.delta.proofs.laws.effect_of_trimmed.Goals as goal

pub returns : goal.returns
returns c = apply-trimmed
