use Rattle.delta.proofs.Parts.{effect_of_parts}
use Rattle.delta.proofs.laws.effect_of_parts.Goals as goal

pub returns : goal.returns
returns c = effect_of_parts
