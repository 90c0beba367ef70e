use Rattle.journal.proofs.ReadDeltas.{delta-append_same}
use Rattle.journal.proofs.laws.one_delta_spelling.Goals as goal

pub returns : goal.returns
returns c = delta-append_same
