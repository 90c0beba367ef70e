use Rattle.std.proofs.Common.{◌≡◌, ◌∙◌, true, false, refl, ap, sym, arith, rules}
use Rattle.std.proofs.lemmas.Bool.{false≢true}
use Rattle.recovery.specs.Open.{has_failed}
use Rattle.flusher.specs.Holding.{store_of}
use Rattle.turns.proofs.Writing.{kept_up_same, writes_none, writes_kept_up, failed_at, fails_same, writes_on, works_after, fails_ok, fails_not, memory_not_fault, turned_after, causes_after}
use Rattle.turns.proofs.Counting.{at_kept_up}
use Rattle.turns.specs.declared.turned.Turned.TheVariants.{Nothing}
use Rattle.turns.proofs.turn.try_turn.Goals as goal

-- the device had failed before
pub returns-then-has_failed-clause-turn : goal.returns-then-has_failed-clause-turn
returns-then-has_failed-clause-turn g c =
    let failed : has_failed (store_of c.args.flusher.now) ≡ true = search rules in
    record {
      writes = writes_none g.L.Life.start c.args.flusher.now c.kept.ensures;
      turned = tt;
      nothing = tt;
      unpublished = λ is. refl;
      fails = λ works. absurd (false≢true (sym works ∙ failed));
      causes = λ no_memory no_fault. absurd (no_fault (search rules));
    }

-- it failed at a milestone
pub failed-requires-in-Err : goal.failed-requires-in-Err
failed-requires-in-Err g c = failed_at c.in-Err.field-0 (has_failed (store_of c.args.flusher.now)) (has_failed (store_of c.keep_up.new.flusher)) (search rules) c.in-Err.ensures.fails c.in-Err.ensures.only

pub returns-in-Err-clause-turn : goal.returns-in-Err-clause-turn
returns-in-Err-clause-turn g c =
    let e = c.keep_up.ensures in
    record {
      writes = writes_kept_up g.L.Life.start c.args.flusher.now c.keep_up.new.flusher c.kept.ensures e.keeps;
      turned = tt;
      nothing = tt;
      unpublished = λ is. e.keeps.batches.told;
      fails = fails_same c.by_cause-in-Err.result c.in-Err.field-0 (has_failed (store_of c.args.flusher.now)) (has_failed (store_of c.keep_up.new.flusher))
          (c.by_cause-in-Err.ensures ∙ c.failed-in-Err.ensures ∙ sym c.in-Err.ensures.only) c.in-Err.ensures.fails;
      causes = λ no_memory no_fault. absurd (no_fault (c.by_cause-in-Err.ensures ∙ c.failed-in-Err.ensures));
    }

-- memory is wanted for a run
pub returns-in-Err-fetch_batch-clause-turn : goal.returns-in-Err-fetch_batch-clause-turn
returns-in-Err-fetch_batch-clause-turn g c =
    let e = c.keep_up.ensures in
    let old = has_failed (store_of c.args.flusher.now) in
    let works = works_after c.in_default.field-0 old (has_failed (store_of c.keep_up.new.flusher)) c.in_default.ensures.fails in
    let refusal = c.no_memory.result in
    record {
      writes = writes_on g.L.Life.start c.args.flusher.now c.keep_up.new.flusher c.fetch_batch.new.flusher
          (writes_kept_up g.L.Life.start c.args.flusher.now c.keep_up.new.flusher c.kept.ensures e.keeps) works c.fetch_batch.ensures.writes;
      turned = tt;
      nothing = tt;
      unpublished = λ is. c.fetch_batch.ensures.told ∙ e.keeps.batches.told;
      fails = fails_not refusal old (has_failed (store_of c.fetch_batch.new.flusher)) (λ worked. ap has_failed c.fetch_batch.ensures.store ∙ works worked)
          (memory_not_fault refusal c.no_memory.ensures);
      causes = λ no_memory no_fault. absurd (no_memory c.no_memory.ensures);
    }

-- there is no run
pub returns-in-Some-clause-turn : goal.returns-in-Some-clause-turn
returns-in-Some-clause-turn g c =
    let e = c.keep_up.ensures in
    let old = has_failed (store_of c.args.flusher.now) in
    let works = works_after c.in_default.field-0 old (has_failed (store_of c.keep_up.new.flusher)) c.in_default.ensures.fails in
    let same = c.fetch_batch.ensures.told ∙ e.keeps.batches.told in
    record {
      writes = writes_on g.L.Life.start c.args.flusher.now c.keep_up.new.flusher c.fetch_batch.new.flusher
          (writes_kept_up g.L.Life.start c.args.flusher.now c.keep_up.new.flusher c.kept.ensures e.keeps) works c.fetch_batch.ensures.writes;
      turned = (same, rw c.in-Some.is at c.in-Ok.ensures.whole);
      nothing = rw c.in-Some.is at c.in-Ok.ensures.nothing;
      unpublished = λ is. same;
      fails = fails_ok (Nothing c.in-Some.nothing) old (has_failed (store_of c.fetch_batch.new.flusher)) (λ worked. ap has_failed c.fetch_batch.ensures.store ∙ works worked);
      causes = tt;
    }

-- it is written
pub returns-in-None-clause-turn : goal.returns-in-None-clause-turn
returns-in-None-clause-turn g c =
    let e = c.keep_up.ensures in
    let turn = c.write_held.ensures.turn in
    let works = works_after c.in_default.field-0 (has_failed (store_of c.args.flusher.now)) (has_failed (store_of c.keep_up.new.flusher)) c.in_default.ensures.fails in
    let first = writes_kept_up g.L.Life.start c.args.flusher.now c.keep_up.new.flusher c.kept.ensures e.keeps in
    let held = writes_on g.L.Life.start c.args.flusher.now c.keep_up.new.flusher c.fetch_batch.new.flusher first works c.fetch_batch.ensures.writes in
    let same = c.fetch_batch.ensures.told ∙ e.keeps.batches.told in
    record {
      writes = writes_on g.L.Life.start c.args.flusher.now c.fetch_batch.new.flusher c.write_held.new.flusher held
          (λ worked. ap has_failed c.fetch_batch.ensures.store ∙ works worked) turn.writes;
      turned = turned_after c.write_held.result c.args.flusher.now c.fetch_batch.new.flusher c.write_held.new.flusher same turn.turned;
      nothing = turn.nothing;
      unpublished = λ is. turn.unpublished is ∙ same;
      fails = λ worked. turn.fails (ap has_failed c.fetch_batch.ensures.store ∙ works worked);
      causes = causes_after c.write_held.result c.args.flusher.now c.fetch_batch.new.flusher c.write_held.new.flusher
          (kept_up_same (store_of c.args.flusher.now) (store_of c.keep_up.new.flusher) (store_of c.fetch_batch.new.flusher) e.keeps.kept_up c.fetch_batch.ensures.store)
          (λ worked. ap has_failed c.fetch_batch.ensures.store ∙ works worked) same turn.causes;
    }

pub write_held-requires : goal.write_held-requires
write_held-requires g c =
    let old = has_failed (store_of c.args.flusher.now) in
    let worked : old ≡ false = search rules in
    let works = works_after c.in_default.field-0 old (has_failed (store_of c.keep_up.new.flusher)) c.in_default.ensures.fails worked in
    (omega arith, (c.fetch_batch.ensures.at, (ap has_failed c.fetch_batch.ensures.store ∙ works, rw c.in-None.is at c.in-Ok.ensures.held)))

pub fetch_batch-requires : goal.fetch_batch-requires
fetch_batch-requires g c = (omega arith, at_kept_up c.args.writer.now c.args.flusher.now c.keep_up.new.flusher c.keep_up.ensures.keeps c.requires.at)

pub returns-in-Err-clause-at : goal.returns-in-Err-clause-at
returns-in-Err-clause-at g c = at_kept_up c.args.writer.now c.args.flusher.now c.keep_up.new.flusher c.keep_up.ensures.keeps c.requires.at
