use Rattle.journal.proofs.BatchWidths.{length-entry, length-batch}
use Rattle.journal.proofs.laws.batch_width.Goals as goal

pub returns-clause-entry : goal.returns-clause-entry
returns-clause-entry c = length-entry

pub returns-clause-batch : goal.returns-clause-batch
returns-clause-batch c = length-batch
