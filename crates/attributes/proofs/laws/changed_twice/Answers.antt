use Rattle.attributes.proofs.AtEachName.{changed-changed}
use Rattle.attributes.proofs.laws.changed_twice.Goals as goal

pub returns : goal.returns
returns c = changed-changed
