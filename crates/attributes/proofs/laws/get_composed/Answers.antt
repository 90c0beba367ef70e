use Rattle.attributes.proofs.AtEachName.{get-composed}
use Rattle.attributes.proofs.laws.get_composed.Goals as goal

pub returns : goal.returns
returns c = get-composed
