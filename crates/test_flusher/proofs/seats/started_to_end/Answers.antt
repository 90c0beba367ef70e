use Rattle.std.proofs.Common.{ap}
use Rattle.turns.proofs.CallerLemmas.{at_begun}
use Rattle.test_flusher.proofs.seats.started_to_end.Goals as goal

pub returns-clause-at : goal.returns-clause-at
returns-clause-at g c =
    at_begun _ _ _ c.in-Ok.both.0 c.in-Ok.both.1 c.tally-tally.new.self c.new-hub.result.1 c.in-Ok.ensures.begun (ap (λ b. b.progress) c.tally-tally.ensures.same) c.new-hub.ensures.writer
