use Rattle.delta.proofs.Parts.{effect_past_end}
use Rattle.delta.proofs.laws.effect_past_end.Goals as goal

pub returns : goal.returns
returns c = effect_past_end
