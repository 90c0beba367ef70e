use Rattle.std.proofs.Common.{sym, ap}
use Rattle.delta.specs.Operation.{is_plain}
use Rattle.journal.proofs.batch.reading.normal_form.is_plain_retain.Goals as goal

pub returns-in-Some : goal.returns-in-Some
returns-in-Some c = sym (ap is_plain c.in-Some.ensures)
