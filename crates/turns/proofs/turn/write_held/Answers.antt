use Rattle.std.proofs.Common.{◌≢◌, ◌∙◌, sym, subst, arith}
use Rattle.refusal.specs.declared.Refusal.TheVariants.{NoMemory, Fault}
use Rattle.recovery.specs.Open.{has_failed}
use Rattle.flusher.specs.Holding.{store_of}
use Rattle.flusher.specs.Writing.{IsFullForGood}
use Rattle.flusher.proofs.CallerLemmas.{no_error}
use Rattle.turns.proofs.Writing.{full_for_good, writes_refused, writes_written, one_written, turn_failed, works_after, fails_ok, fails_same}
use Rattle.turns.proofs.Counting.{at_still, at_settled, comes_next}
use Rattle.turns.specs.Writing.{IsTurnFailed}
use Rattle.turns.specs.declared.turned.Turned.TheVariants.{Settled}
use Rattle.turns.proofs.turn.write_held.Goals as goal

-- the write is refused
pub returns-in-Err-clause-turn : goal.returns-in-Err-clause-turn
returns-in-Err-clause-turn g c =
    let e = c.in-Err.ensures in
    record {
      writes = writes_refused g.L.Life.start c.args.flusher.now c.write.new.self c.in-Err.refusal c.kept.ensures c.write.ensures.writes.goes c.kept-in-Err.ensures e.refused e.writes.why e.writes.faults.fails;
      turned = tt;
      nothing = tt;
      unpublished = λ is. e.refused.told;
      fails = fails_same c.stop_for.result c.in-Err.refusal (has_failed (store_of c.args.flusher.now)) (has_failed (store_of c.write.new.self)) c.stop_for.ensures e.writes.faults.fails;
      causes = subst (λ r. r ≢ NoMemory → r ≢ Fault → IsTurnFailed c.args.flusher.now r c.write.new.self) (sym c.stop_for.ensures)
          (turn_failed c.args.flusher.now c.write.new.self c.in-Err.refusal e.refused e.writes.why);
    }

pub stop_for-requires-clause-full : goal.stop_for-requires-clause-full
stop_for-requires-clause-full g c =
    let e = c.in-Err.ensures in
    subst (λ s. c.in-Err.refusal ≢ NoMemory → c.in-Err.refusal ≢ Fault → IsFullForGood c.in-Err.refusal s c.write.new.self) (sym c.snapshot-then.ensures)
    (full_for_good c.args.flusher.now c.write.new.self c.in-Err.refusal e.refused e.writes.why)

-- a batch is held, so the write doesn't answer that none was
pub unreachable-requires : goal.unreachable-requires
unreachable-requires g c = c.requires.held (rw c.in-None.is at c.in-Ok.ensures.published).none.0

-- it is written, and settled
pub returns-clause-turn : goal.returns-clause-turn
returns-clause-turn g c =
    let e = c.in-Ok.ensures in
    let old = has_failed (store_of c.args.flusher.now) in
    let new = has_failed (store_of c.write.new.self) in
    let done = rw c.in-Some.is at e.published in
    let works = works_after c.in-Ok.written old new e.writes.faults.fails in
    record {
      writes = writes_written g.L.Life.start c.args.flusher.now c.write.new.self c.in-Some.both c.kept.ensures c.kept-in-Some.ensures c.write.ensures.writes.goes works done;
      turned = (one_written c.args.flusher.now c.write.new.self c.in-Some.both done, c.settle-receipt.ensures.settled.settled ∙ done.some.token_is);
      nothing = (done.committed, done.waiting);
      unpublished = λ is. absurd (no_error (Settled _) NoMemory is);
      fails = fails_ok (Settled _) old new works;
      causes = tt;
    }

pub settle-receipt-requires : goal.settle-receipt-requires
settle-receipt-requires g c =
    (omega arith, comes_next c.args.writer.now c.args.flusher.now c.write.new.self c.in-Some.both (rw c.in-Some.is at c.in-Ok.ensures.published) c.requires.at)

pub returns-clause-at : goal.returns-clause-at
returns-clause-at g c =
    at_settled c.args.writer.now c.settle-receipt.new.writer c.args.flusher.now c.write.new.self c.in-Some.both (rw c.in-Some.is at c.in-Ok.ensures.published) c.settle-receipt.ensures.settled.counts
    c.requires.at

pub returns-in-Err-clause-at : goal.returns-in-Err-clause-at
returns-in-Err-clause-at g c =
    let e = c.in-Err.ensures.refused in
    at_still c.args.writer.now c.args.flusher.now c.write.new.self e.told e.held c.requires.at
