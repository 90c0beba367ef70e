use Rattle.std.proofs.Common.{◌≡◌, ◌∙◌, ◌<◌, ℕ, Some, Err, List, length, get_or, refl, sym, ap, subst, arith}
use Rattle.std.specs.Prelude.{slice_get}
use Rattle.std.proofs.lemmas.List.{take_all}
use Rattle.std.proofs.lemmas.Option.{slice_get-get_or}
use Rattle.std.proofs.lemmas.Result.{err_from_is_err_and}
use Rattle.disk.specs.Device.{Rose}
use Rattle.disk.specs.Crash.{history_of}
use Rattle.disk.proofs.CallerLemmas.{begins_anywhere}
use Rattle.history.specs.Cell.{Cell}
use Rattle.recovery.specs.Formatting.{IsPreparedWith}
use Rattle.recovery.proofs.Beginning.{none_put, one_put, few_enough, still_unformatted}
use Rattle.recovery.proofs.formatting.put_first.Goals as goal

-- the document of the next number
document_at : (milestones : List Cell) (number : ℕ) (cell : Cell) → number < length milestones → cell ≡ get_or milestones number cell → slice_get milestones number ≡ Some cell
document_at milestones number cell below is = slice_get-get_or milestones number cell below ∙ ap (λ (x : Cell). Some x) (sym is)

pub loop-number-init : goal.loop-number-init
loop-number-init g c = record {
  prepared = none_put c.args.shape.now (g.D.Disk.seen c.args.disk.now) c.requires.in_range c.requires.prepared;
  any_moment = λ closed. begins_anywhere (history_of g.D.Disk c.args.disk.now) closed;
  length = refl;
  honest = (λ honest. honest, λ honest. honest);
  faults = refl;
}

pub loop-number-preserved : goal.loop-number-preserved
loop-number-preserved g c =
    let at = c.loop-number in
    let shape = c.args.shape.now in
    let milestones = c.args.milestones.now in
    let cell = c.index-milestones-number.result in
    let there = document_at milestones at.number cell c.loop-number-test.true c.index-milestones-number.is in
    let below : at.number < shape.docs = omega (arith, c.loop-number-test.true, few_enough shape milestones c.requires.begins) in
    record {
      prepared = one_put shape milestones at.number cell (g.D.Disk.seen at.disk) (g.D.Disk.seen c.put_in_first.new.disk) c.requires.in_range below there at.invariant.prepared
          c.in_ok-put_in_first.ensures.outside c.in_ok-put_in_first.ensures.held;
      any_moment = λ closed. still_unformatted (at.invariant.any_moment closed) (omega arith) c.put_in_first.ensures.any_moment;
      length = c.put_in_first.ensures.only_written.length ∙ at.invariant.length;
      honest = (
        λ honest. at.invariant.honest.0 (c.put_in_first.ensures.only_written.honest.0 honest),
        λ honest. c.put_in_first.ensures.only_written.honest.1 (at.invariant.honest.1 honest),
      );
      faults = c.in_ok-put_in_first.ensures.faults.good ∙ at.invariant.faults;
    }

pub put_in_first-requires-clause-is : goal.put_in_first-requires-clause-is
put_in_first-requires-clause-is g c =
    let cell = c.index-milestones-number.result in
    c.requires.begins.spelled c.loop-number.number cell
    (document_at c.args.milestones.now c.loop-number.number cell c.loop-number-test.true c.index-milestones-number.is)

pub returns-in_err-put_in_first-clause-any_moment : goal.returns-in_err-put_in_first-clause-any_moment
returns-in_err-put_in_first-clause-any_moment g c closed = still_unformatted (c.loop-number.invariant.any_moment closed) (omega arith) c.put_in_first.ensures.any_moment

pub returns-clause-prepared : goal.returns-clause-prepared
returns-clause-prepared g c =
    subst (λ (l : List Cell). IsPreparedWith c.args.shape.now l (g.D.Disk.seen c.loop-number.disk)) (take_all c.loop-number.number c.args.milestones.now (omega arith)) c.loop-number.invariant.prepared

pub returns-in_err-put_in_first-clause-faults : goal.returns-in_err-put_in_first-clause-faults
returns-in_err-put_in_first-clause-faults g c =
    let p = err_from_is_err_and c.from_residual.result c.from_residual.ensures.1 in
    let faults = c.in_err-put_in_first.ensures.faults in
    let now = g.D.Disk.faults c.put_in_first.new.disk in
    rw p.1 (record {
      good = tt;
      others = λ differ. faults.others (λ same. differ (p.2 ∙ same)) ∙ c.loop-number.invariant.faults;
      failed = λ is. subst (λ (n : ℕ). Rose n now) c.loop-number.invariant.faults (faults.failed (ap Err (sym p.2) ∙ is));
    })
