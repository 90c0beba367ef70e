use Rattle.std.proofs.Common.{◌∙◌, ap, arith}
use Rattle.server_threads.proofs.life.make_ready.Goals as goal

pub returns-clause-kept : goal.returns-clause-kept
returns-clause-kept g c = record { state = c.kept.ensures }

-- each seat has its desk, or is tallied, and none was tallied before
pub returns-clause-seated : goal.returns-clause-seated
returns-clause-seated g c = record {
  first = c.in-Ok.ensures.first;
  some = c.in-Ok.ensures.some;
  all = omega (arith, c.in-Ok.ensures.all, c.requires.ready.all, ap (λ t. t.seats) c.requires.ready.none);
  none = c.in-Ok.ensures.none ∙ ap (λ t. t.counted) c.requires.ready.none;
}
