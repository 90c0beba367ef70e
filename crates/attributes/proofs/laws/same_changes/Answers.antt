use Rattle.attributes.proofs.AtEachName.{same_changes_map}
use Rattle.attributes.proofs.laws.same_changes.Goals as goal

pub returns : goal.returns
returns c = same_changes_map
