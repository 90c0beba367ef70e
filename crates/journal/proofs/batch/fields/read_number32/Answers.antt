use Rattle.std.proofs.Common.{◌^◌, refl, arith}
use Rattle.std.specs.Int.{w32}
use Rattle.journal.proofs.Numbers.{number32, number_takes}
use Rattle.journal.proofs.Fields.{none_short, some_long}
use Rattle.journal.proofs.batch.fields.read_number32.Goals as goal

pub returns-in-Ok-clause-found : goal.returns-in-Ok-clause-found
returns-in-Ok-clause-found c =
    (number_takes w32 (2 ^ 32) number32 c.args.bytes.now (c.in-Ok.number, c.in-Ok.rest.now) (λ i. omega (arith, c.type_inv.bytes i)) c.in-Ok.ensures.read).0.parts

pub returns-in-Ok-clause-none : goal.returns-in-Ok-clause-none
returns-in-Ok-clause-none c =
    let long = some_long w32 c.args.bytes.now (c.in-Ok.number, c.in-Ok.rest.now) c.in-Ok.ensures.read in
    (λ none. absurd cc, λ short. absurd (omega (arith, long, short)))

pub returns-in-Err-clause-none : goal.returns-in-Err-clause-none
returns-in-Err-clause-none c =
    (λ none. none_short w32 c.args.bytes.now (rw c.in-Err.ensures.only at c.in-Err.ensures.read), λ short. refl)
