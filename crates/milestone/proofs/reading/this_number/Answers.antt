use Rattle.std.proofs.Common.{refl, sym, ◌∙◌, arith}
use Rattle.journal.proofs.CallerLemmas.{one_number32_spelling}
use Rattle.milestone.proofs.Fields.{number32_none}
use Rattle.milestone.proofs.reading.this_number.Goals as goal

pub returns-in_default-clause-none : goal.returns-in_default-clause-none
returns-in_default-clause-none c = λ is. number32_none c.args.number c.args.bytes.now (c.in_default.ensures.none.0 refl)

pub returns-then-read-number-clause-none : goal.returns-then-read-number-clause-none
returns-then-read-number-clause-none c = λ is rest spelled.
    let same = one_number32_spelling c.in-Some.read c.args.number c.in-Some.rest.now rest (omega arith) (omega arith) (sym c.in-Some.ensures.found ∙ spelled) in
    absurd (omega (arith, same.0))
