use Rattle.flusher.proofs.Beginnings.{commands-append, fewer, longer, within_write}
use Rattle.flusher.proofs.laws.first_batches.Goals as goal

pub returns-clause-commands : goal.returns-clause-commands
returns-clause-commands c = commands-append

pub returns-clause-fewer : goal.returns-clause-fewer
returns-clause-fewer c = fewer

pub returns-clause-more : goal.returns-clause-more
returns-clause-more c = longer

pub returns-clause-during_write : goal.returns-clause-during_write
returns-clause-during_write c = within_write
