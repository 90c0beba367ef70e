use Rattle.attributes.proofs.AtEachName.{get-changed}
use Rattle.attributes.proofs.laws.get_changed.Goals as goal

pub returns : goal.returns
returns c = get-changed
