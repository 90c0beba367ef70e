use Rattle.std.proofs.Common.{◌≡◌, ◌+◌, length, arith, rules}
use Rattle.server_threads.proofs.connections.hold_all.Goals as goal

-- as many desks come back as there were
pub close-requires : goal.close-requires
close-requires g c =
    let all : c.args.seated.closing.tally.seats + length c.serve_all-heard.result.1.items + 1 ≡ g.L.Ledger.parts =
    omega (arith, c.requires.seated.all, c.serve_all-heard.ensures.as_many) in
    let none = c.requires.seated.none in
    search rules

pub returns-clause-ended : goal.returns-clause-ended
returns-clause-ended g c = record {
  desks = c.serve_all-heard.result.1.items;
  tallied = c.close.ensures.tallied;
  sessions = c.serve_all-heard.ensures.served;
}
