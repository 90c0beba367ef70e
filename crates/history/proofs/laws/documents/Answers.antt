use Rattle.history.proofs.Reached.{documents_reach}
use Rattle.history.proofs.laws.documents.Goals as goal

pub returns : goal.returns
returns c = documents_reach
