use Rattle.hub_desk.proofs.Placing.{placed_stands as law}
use Rattle.hub_desk.proofs.laws.placed_stands.Goals as goal

pub returns : goal.returns
returns c = law
