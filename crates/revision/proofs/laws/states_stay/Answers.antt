use Rattle.revision.proofs.Keeping.{empty_is_state, growing_keeps, adopting_keeps, continuing_keeps}
use Rattle.revision.proofs.laws.states_stay.Goals as goal

pub returns-clause-begin : goal.returns-clause-begin
returns-clause-begin c = empty_is_state

pub returns-clause-grow : goal.returns-clause-grow
returns-clause-grow c = growing_keeps

pub returns-clause-adopt : goal.returns-clause-adopt
returns-clause-adopt c = adopting_keeps

pub returns-clause-documents : goal.returns-clause-documents
returns-clause-documents c = continuing_keeps
