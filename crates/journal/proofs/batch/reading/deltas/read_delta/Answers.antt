use Rattle.std.proofs.Common.{sym, ap, ◌∙◌, arith}
use Rattle.std.proofs.lemmas.Option.{none-some}
use Rattle.journal.specs.steps.DeltaReading.{delta_at}
use Rattle.journal.proofs.ReadDeltas.{delta_takes, delta_again}
use Rattle.journal.proofs.batch.reading.deltas.read_delta.Goals as goal

pub returns-in-Ok-clause-found : goal.returns-in-Ok-clause-found
returns-in-Ok-clause-found c =
    let t = delta_takes c.args.bytes.now (c.in-Ok.delta, c.in-Ok.rest.now) (λ i. omega (arith, c.type_inv.bytes i)) c.in-Ok.ensures in
    (t.1, t.0.parts)

pub returns-in-Err-Malformed-clause-none : goal.returns-in-Err-Malformed-clause-none
returns-in-Err-Malformed-clause-none c = λ operations rest is spelled.
    let nothing = rw c.in-Err-Malformed.field-0-is at c.in-Err-Malformed.ensures in
    none-some (operations, rest) (sym nothing ∙ ap delta_at spelled ∙ delta_again operations rest is)
