use Rattle.compose.proofs.Inverses.{undone}
use Rattle.compose.proofs.laws.undone.Goals as goal

pub returns : goal.returns
returns c = undone
