use Rattle.compose.proofs.Compositions.{composes_by_normal}
use Rattle.compose.proofs.laws.composes_by_normal.Goals as goal

pub returns : goal.returns
returns c = composes_by_normal
