use Rattle.delta.proofs.Spellings.{counted-spelled}
use Rattle.delta.proofs.laws.counted_of_spelled.Goals as goal

pub returns : goal.returns
returns c = counted-spelled
