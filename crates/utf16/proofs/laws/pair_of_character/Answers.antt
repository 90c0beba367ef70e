use Rattle.utf16.proofs.CodeUnits.{pair_of-large}
use Rattle.utf16.proofs.laws.pair_of_character.Goals as goal

pub returns : goal.returns
returns c = pair_of-large
