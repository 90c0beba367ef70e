use Rattle.hub_desk.proofs.StandsOn.{was_taken_among}
use Rattle.hub_desk.proofs.laws.taken_among.Goals as goal

pub returns : goal.returns
returns c = was_taken_among
