use Rattle.std.proofs.Common.{arith}
use Rattle.segments.proofs.Numbering.{none_open}
use Rattle.segments.proofs.numbers.oldest_of_two.Goals as goal

pub returns-clause-few : goal.returns-clause-few
returns-clause-few c = (
  λ is. absurd (omega (arith, none_open c.args.numbers.now (c.oldest.ensures.closed is))),
  λ few. absurd (omega (arith, few)),
)
