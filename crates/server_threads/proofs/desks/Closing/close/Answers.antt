use Rattle.std.proofs.Common.{arith}
use Rattle.std.specs.Prelude.{sum_by}
use Rattle.server_threads.proofs.Tallied.{from_nothing}
use Rattle.server_threads.proofs.desks.Closing.close.Goals as goal

-- all seats are tallied
pub end-requires : goal.end-requires
end-requires g c = omega (arith, c.requires.all, c.tally_desks.ensures.seats)

pub returns-clause-all : goal.returns-clause-all
returns-clause-all g c = omega (arith, c.requires.all, c.tally_desks.ensures.seats)

pub returns-clause-tallied : goal.returns-clause-tallied
returns-clause-tallied g c = record {
  told = c.tally_desks.ensures.told;
  found = c.tally_desks.ensures.found;
  counts = from_nothing c.args.self.now.tally.counted c.tally_desks.new.tally.counted (sum_by (λ desk. desk.counted) c.args.desks.items) c.requires.none c.tally_desks.ensures.counted;
}
