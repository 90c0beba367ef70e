use Rattle.std.proofs.Common.{refl, arith}
use Rattle.milestone.proofs.Fields.{number64_none, other_number64}
use Rattle.milestone.proofs.reading.number_within.Goals as goal

pub returns-in_default-clause-none : goal.returns-in_default-clause-none
returns-in_default-clause-none c = λ is. number64_none c.args.high c.args.bytes.now (c.in_default.ensures.none.0 refl)

pub returns-then-not-within-clause-none : goal.returns-then-not-within-clause-none
returns-then-not-within-clause-none c = λ is.
    other_number64 c.args.high c.in-Some.number c.args.bytes.now c.in-Some.rest.now (omega arith) (omega arith) c.in-Some.ensures.found
    (λ inside. absurd (omega (arith, inside.0, inside.1)))
