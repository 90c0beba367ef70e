use Rattle.utf16.proofs.CodeUnits.{units_of-halves}
use Rattle.utf16.proofs.laws.units_of_split.Goals as goal

pub returns : goal.returns
returns c = units_of-halves
