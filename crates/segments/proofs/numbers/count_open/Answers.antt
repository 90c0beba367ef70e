use Rattle.std.proofs.Common.{sym, subst, ◌≤◌, length}
use Rattle.segments.proofs.Counting.{count_within}
use Rattle.segments.proofs.numbers.count_open.Goals as goal

pub returns-clause-bound : goal.returns-clause-bound
returns-clause-bound c = subst (λ n. n ≤ length c.args.numbers.now) (sym c.open_count.ensures) (count_within c.args.numbers.now)
