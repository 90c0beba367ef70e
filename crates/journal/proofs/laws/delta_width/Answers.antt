use Rattle.journal.proofs.DeltaWidths.{length-delta}
use Rattle.journal.proofs.laws.delta_width.Goals as goal

pub returns : goal.returns
returns c = length-delta
