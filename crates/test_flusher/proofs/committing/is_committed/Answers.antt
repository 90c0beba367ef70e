use Rattle.std.proofs.Common.{arith}
use Rattle.turns.proofs.CallerLemmas.{at_committed, comes_next, at_settled}
use Rattle.test_flusher.proofs.committing.is_committed.Goals as goal

pub settle-settled-requires : goal.settle-settled-requires
settle-settled-requires g c =
    let e = c.commit_held-committed.ensures in
    let at = at_committed c.hold_next.new.writer c.commit_held-committed.result c.hold_next.new.flusher c.commit_held-committed.new.self e.committed e.refused c.hold_next.ensures.at in
    let done = rw c.expect-batch.ensures at (rw c.expect-written.ensures at c.write.ensures.published) in
    (omega arith, comes_next c.hold_next.new.writer c.commit_held-committed.new.self c.write.new.self c.expect-batch.result done at)

pub returns-clause-at : goal.returns-clause-at
returns-clause-at g c =
    let e = c.commit_held-committed.ensures in
    let at = at_committed c.hold_next.new.writer c.commit_held-committed.result c.hold_next.new.flusher c.commit_held-committed.new.self e.committed e.refused c.hold_next.ensures.at in
    let done = rw c.expect-batch.ensures at (rw c.expect-written.ensures at c.write.ensures.published) in
    at_settled c.hold_next.new.writer c.settle-settled.new.writer c.commit_held-committed.new.self c.write.new.self c.expect-batch.result done c.settle-settled.ensures.settled.counts at
