use Rattle.attributes.proofs.AtEachName.{changed-reverted}
use Rattle.attributes.proofs.laws.changed_back.Goals as goal

pub returns : goal.returns
returns c = changed-reverted
