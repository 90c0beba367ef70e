use Rattle.attributes.proofs.Maps.{get-insert}
use Rattle.attributes.proofs.laws.get_inserted.Goals as goal

pub returns : goal.returns
returns c = record { of_attributes = get-insert; of_changes = get-insert }
