use Rattle.journal.proofs.Batches.{one_spelling}
use Rattle.journal.proofs.laws.one_spelling.Goals as goal

pub returns : goal.returns
returns c = one_spelling
