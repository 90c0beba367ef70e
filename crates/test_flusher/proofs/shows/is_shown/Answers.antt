use Rattle.std.proofs.Common.{arith}
use Rattle.turns.proofs.CallerLemmas.{comes_next, at_settled}
use Rattle.test_flusher.proofs.shows.is_shown.Goals as goal

pub settle-settled-requires : goal.settle-settled-requires
settle-settled-requires g c =
    let done = rw c.expect-batch.ensures at (rw c.expect-written.ensures at c.write.ensures.published) in
    (omega arith, comes_next c.hold_next.new.writer c.hold_next.new.flusher c.write.new.self c.expect-batch.result done c.hold_next.ensures.at)

pub returns-clause-at : goal.returns-clause-at
returns-clause-at g c =
    let done = rw c.expect-batch.ensures at (rw c.expect-written.ensures at c.write.ensures.published) in
    at_settled c.hold_next.new.writer c.settle-settled.new.writer c.hold_next.new.flusher c.write.new.self c.expect-batch.result done c.settle-settled.ensures.settled.counts c.hold_next.ensures.at
