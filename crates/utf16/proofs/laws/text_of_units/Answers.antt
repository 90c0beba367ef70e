use Rattle.utf16.proofs.CodeUnits.{utf8_of-units_of}
use Rattle.utf16.proofs.laws.text_of_units.Goals as goal

pub returns : goal.returns
returns c = utf8_of-units_of
