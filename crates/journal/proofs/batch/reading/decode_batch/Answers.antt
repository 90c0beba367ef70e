use Rattle.std.proofs.Common.{sym, ap, ◌∙◌, arith}
use Rattle.std.proofs.lemmas.Option.{none-some}
use Rattle.journal.specs.steps.BatchReading.{whole_at}
use Rattle.journal.proofs.Batches.{whole_takes, whole_again}
use Rattle.journal.proofs.batch.reading.decode_batch.Goals as goal

pub returns-in-Ok-clause-found : goal.returns-in-Ok-clause-found
returns-in-Ok-clause-found c = whole_takes c.args.bytes.now c.in-Ok.batch.items (λ i. omega (arith, c.type_inv.bytes i)) c.in-Ok.ensures

pub returns-in-Err-Malformed-clause-none : goal.returns-in-Err-Malformed-clause-none
returns-in-Err-Malformed-clause-none c = λ batch is spelled.
    let nothing = rw c.in-Err-Malformed.field-0-is at c.in-Err-Malformed.ensures in
    none-some batch (sym nothing ∙ ap whole_at spelled ∙ whole_again batch is)
