use Rattle.revision.proofs.Agreeing.{agreeing_grow, agreeing_continue}
use Rattle.revision.proofs.laws.agreeing_grow.Goals as goal

pub returns-clause-states : goal.returns-clause-states
returns-clause-states c = agreeing_grow

pub returns-clause-documents : goal.returns-clause-documents
returns-clause-documents c = agreeing_continue
