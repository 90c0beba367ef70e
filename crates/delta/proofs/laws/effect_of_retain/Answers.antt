use Rattle.delta.proofs.Parts.{effect_of_retain}
use Rattle.delta.proofs.laws.effect_of_retain.Goals as goal

pub returns : goal.returns
returns c = effect_of_retain
