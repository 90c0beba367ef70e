use Rattle.delta.proofs.Parts.{effect_of_delete}
use Rattle.delta.proofs.laws.effect_of_delete.Goals as goal

pub returns : goal.returns
returns c = effect_of_delete
