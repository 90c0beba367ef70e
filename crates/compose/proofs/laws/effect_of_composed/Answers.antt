use Rattle.compose.proofs.Compositions.{apply-composed}
use Rattle.compose.proofs.laws.effect_of_composed.Goals as goal

pub returns : goal.returns
returns c = apply-composed
