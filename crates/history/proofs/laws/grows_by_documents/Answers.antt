use Rattle.history.proofs.Committing.{grows_by_documents}
use Rattle.history.proofs.laws.grows_by_documents.Goals as goal

pub returns : goal.returns
returns c = grows_by_documents
