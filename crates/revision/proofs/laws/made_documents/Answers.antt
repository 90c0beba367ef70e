use Rattle.revision.proofs.MadeDocuments.{made_more, made_before, made_first, made_rest}
use Rattle.revision.proofs.laws.made_documents.Goals as goal

pub returns-clause-more : goal.returns-clause-more
returns-clause-more c = made_more

pub returns-clause-before : goal.returns-clause-before
returns-clause-before c = made_before

pub returns-clause-first : goal.returns-clause-first
returns-clause-first c = made_first

pub returns-clause-rest : goal.returns-clause-rest
returns-clause-rest c = made_rest
