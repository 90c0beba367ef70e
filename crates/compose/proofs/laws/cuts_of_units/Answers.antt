use Rattle.compose.proofs.DocumentCuts.{cuts_of_units}
use Rattle.compose.proofs.laws.cuts_of_units.Goals as goal

pub returns : goal.returns
returns c = cuts_of_units
