use Rattle.delta.proofs.Parts.{effect_of_nothing}
use Rattle.delta.proofs.laws.effect_of_nothing.Goals as goal

pub returns : goal.returns
returns c = effect_of_nothing
