use Rattle.attributes.proofs.AtEachName.{same_attributes_map}
use Rattle.attributes.proofs.laws.same_attributes.Goals as goal

pub returns : goal.returns
returns c = same_attributes_map
