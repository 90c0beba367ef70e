use Rattle.std.proofs.Common.{arith}
use Rattle.journal.proofs.Fields.{text16_takes, text16_none}
use Rattle.journal.proofs.batch.fields.read_text16.Goals as goal

pub returns-in-Ok-clause-found : goal.returns-in-Ok-clause-found
returns-in-Ok-clause-found c =
    text16_takes c.args.bytes.now (c.in-Ok.text.now, c.in-Ok.rest.now) (λ i. omega (arith, c.type_inv.bytes i)) c.in-Ok.ensures.read

pub returns-in-Err-clause-none : goal.returns-in-Err-clause-none
returns-in-Err-clause-none c = λ text rest short valid spelled.
    text16_none c.args.bytes.now text rest (rw c.in-Err.ensures.only at c.in-Err.ensures.read) short valid spelled
