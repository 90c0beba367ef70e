use Rattle.document.proofs.Kept.{stays_well_formed}
use Rattle.document.proofs.laws.stays_well_formed.Goals as goal

pub returns : goal.returns
returns c = stays_well_formed
