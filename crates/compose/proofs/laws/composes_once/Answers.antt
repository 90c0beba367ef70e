use Rattle.compose.proofs.Compositions.{composes_once}
use Rattle.compose.proofs.laws.composes_once.Goals as goal

pub returns : goal.returns
returns c = composes_once
