use Rattle.compose.proofs.DocumentCuts.{cuts_of_inserted}
use Rattle.compose.proofs.laws.cuts_of_inserted.Goals as goal

pub returns : goal.returns
returns c = cuts_of_inserted
