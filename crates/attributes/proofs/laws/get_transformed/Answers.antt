use Rattle.attributes.proofs.AtEachName.{get-transformed}
use Rattle.attributes.proofs.laws.get_transformed.Goals as goal

pub returns : goal.returns
returns c = get-transformed
