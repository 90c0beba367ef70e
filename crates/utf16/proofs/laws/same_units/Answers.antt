use Rattle.utf16.proofs.CodeUnits.{same_units}
use Rattle.utf16.proofs.laws.same_units.Goals as goal

pub returns : goal.returns
returns c = same_units
