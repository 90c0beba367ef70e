use Rattle.std.proofs.Common.{arith}
use Rattle.milestone.proofs.Marks.{no_byte}
use Rattle.milestone.proofs.reading.mark_of.Goals as goal

pub returns-clause-none : goal.returns-clause-none
returns-clause-none c = λ live is. no_byte c.args.byte (λ one. omega (arith, one)) (λ zero. omega (arith, zero)) live is
