use Rattle.attributes.proofs.AtEachName.{get-reverted}
use Rattle.attributes.proofs.laws.get_reverted.Goals as goal

pub returns : goal.returns
returns c = get-reverted
