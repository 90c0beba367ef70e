use Rattle.compose.proofs.ManyDeltas.{defined-one}
use Rattle.compose.proofs.laws.defined_composed.Goals as goal

pub returns : goal.returns
returns c = defined-one
