use Rattle.std.proofs.Common.{◌≡◌, false, sym, subst, rules}
use Rattle.recovery.specs.Open.{has_failed}
use Rattle.flusher.specs.Holding.{store_of}
use Rattle.hub.specs.Runs.{Writer}
use Rattle.turns.specs.Counting.{IsAt}
use Rattle.turns.proofs.Counting.{all_published, at_end}
use Rattle.turns.proofs.Writing.{writes_none, writes_on, works_after, fails_ok, fails_err}
use Rattle.turns.proofs.turn.flush_all.Goals as goal

pub loop-init : goal.loop-init
loop-init g c = record { works = λ works. works; writes = writes_none g.L.Life.start c.args.flusher.now c.kept.ensures; at = c.requires.at }

-- a turn failed the board
pub returns-in-Err-clause-written : goal.returns-in-Err-clause-written
returns-in-Err-clause-written g c =
    let i = c.loop.invariant in
    record {
      writes = writes_on g.L.Life.start c.args.flusher.now c.loop.flusher c.turn_or_yield.new.flusher i.writes i.works c.turn_or_yield.ensures.writes;
      nothing = tt;
      fails = λ works. fails_err c.in-Err.failed (has_failed (store_of c.loop.flusher)) (has_failed (store_of c.turn_or_yield.new.flusher)) c.in-Err.ensures.fails (i.works works);
      causes = λ no_fault. record { last = c.loop.flusher; before = i.writes; failed = c.in-Err.ensures.causes no_fault };
    }

-- the hub is ended
pub returns-in-Err-wait_work-clause-written : goal.returns-in-Err-wait_work-clause-written
returns-in-Err-wait_work-clause-written g c =
    let i = c.loop.invariant in
    let old = has_failed (store_of c.loop.flusher) in
    let new = has_failed (store_of c.turn_or_yield.new.flusher) in
    let none : c.holds.result ≡ false = search rules in
    record {
      writes = writes_on g.L.Life.start c.args.flusher.now c.loop.flusher c.turn_or_yield.new.flusher i.writes i.works c.turn_or_yield.ensures.writes;
      nothing = c.holds.ensures.held none;
      fails = fails_ok c.in-Err-wait_work.idle (has_failed (store_of c.args.flusher.now)) new
          (λ works. works_after c.in_default.field-0 old new c.in_default.ensures.fails (i.works works));
      causes = tt;
    }

pub returns-in-Err-wait_work-clause-at : goal.returns-in-Err-wait_work-clause-at
returns-in-Err-wait_work-clause-at g c =
    at_end c.turn_or_yield.new.writer c.wait_work.new.writer c.turn_or_yield.new.flusher c.in-Err-wait_work.ensures.idle c.turn_or_yield.ensures.at

pub returns-in-Err-wait_work-clause-all : goal.returns-in-Err-wait_work-clause-all
returns-in-Err-wait_work-clause-all g c =
    let none : c.holds.result ≡ false = search rules in
    let calm = c.holds.ensures.held none in
    all_published c.turn_or_yield.new.writer c.wait_work.new.writer c.turn_or_yield.new.flusher c.in-Err-wait_work.ensures.idle calm.0 calm.1 c.turn_or_yield.ensures.at

-- a turn was made
pub loop-preserved : goal.loop-preserved
loop-preserved g c =
    let i = c.loop.invariant in
    record {
      works = λ works. works_after c.in_default.field-0 (has_failed (store_of c.loop.flusher)) (has_failed (store_of c.turn_or_yield.new.flusher)) c.in_default.ensures.fails (i.works works);
      writes = writes_on g.L.Life.start c.args.flusher.now c.loop.flusher c.turn_or_yield.new.flusher i.writes i.works c.turn_or_yield.ensures.writes;
      at = c.turn_or_yield.ensures.at;
    }

-- a turn was made, and work waits
pub loop-preserved-in_default-wait_work : goal.loop-preserved-in_default-wait_work
loop-preserved-in_default-wait_work g c =
    let i = c.loop.invariant in
    record {
      works = λ works. works_after c.in_default.field-0 (has_failed (store_of c.loop.flusher)) (has_failed (store_of c.turn_or_yield.new.flusher)) c.in_default.ensures.fails (i.works works);
      writes = writes_on g.L.Life.start c.args.flusher.now c.loop.flusher c.turn_or_yield.new.flusher i.writes i.works c.turn_or_yield.ensures.writes;
      at = subst (λ (w : Writer). IsAt w c.turn_or_yield.new.flusher) (sym c.in_default-wait_work.ensures.work) c.turn_or_yield.ensures.at;
    }
