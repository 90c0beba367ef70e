use Rattle.utf16.proofs.CodeUnits.{units_of-append}
use Rattle.utf16.proofs.laws.units_of_append.Goals as goal

pub returns : goal.returns
returns c = units_of-append
