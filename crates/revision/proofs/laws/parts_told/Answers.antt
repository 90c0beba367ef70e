use Rattle.revision.proofs.Told.{parts_told}
use Rattle.revision.proofs.laws.parts_told.Goals as goal

pub returns : goal.returns
returns c = parts_told
