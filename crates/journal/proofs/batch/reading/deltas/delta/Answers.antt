use Rattle.std.proofs.Common.{arith}
use Rattle.journal.proofs.ReadDeltas.{delta_takes}
use Rattle.journal.proofs.batch.reading.deltas.delta.Goals as goal

pub returns-clause-spellable : goal.returns-clause-spellable
returns-clause-spellable c =
    (delta_takes c.args.bytes.now (c.in_ok-delta.delta, c.in_ok-delta.rest.now) (λ i. omega (arith, c.type_inv.bytes i)) c.in_ok-delta.ensures).1
