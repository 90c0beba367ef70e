use Rattle.attributes.proofs.AtEachName.{changed-transformed}
use Rattle.attributes.proofs.laws.changed_either_way.Goals as goal

pub returns : goal.returns
returns c = changed-transformed
