use Rattle.std.proofs.Common.{◌≡◌, ◌∙◌, ◌+◌, false, List, ℕ, take, drop, refl, sym, ap, subst, arith}
use Rattle.disk.specs.Crash.{LeavesOnly, history_of}
use Rattle.disk.proofs.CallerLemmas.{synced_leaves, begins, leaves_map, goes_on_run}
use Rattle.revision.specs.State.{State, fold}
use Rattle.recovery.specs.declared.run.StoreStep.{StoreStep}
use Rattle.recovery.specs.declared.run.StoreStep.TheVariants.{Retire}
use Rattle.std.proofs.lemmas.Bool.{false≢true}
use Rattle.refusal.specs.declared.Refusal.TheVariants.{Fault}
use Rattle.std.proofs.lemmas.List.{at_drop_more, take_all, get_or_default}
use Rattle.recovery.specs.Found.{FoundAs}
use Rattle.recovery.specs.Open.{IsOpen, device_of, state_of, has_failed, kept_jobs}
use Rattle.recovery.specs.Run.{AreTaken, IsAfterSome, IsKeptFrom, IsWhy, batch_of, state_after}
use Rattle.recovery.specs.Begun.{IsLeftBy, jobs_behind, jobs_after}
use Rattle.recovery.proofs.Begun.{jobs_after-more}
use Rattle.recovery.proofs.PutAtOnce.{taken_more}
use Rattle.recovery.proofs.KeptFrom.{kept_here, kept_on, kept_more}
use Rattle.recovery.proofs.Folds.{fold-limits}
use Rattle.recovery.proofs.Refusals.{refusal_or}
use Rattle.recovery.proofs.Runs.{unchanged, unchanged_twice, found_open, found_as, state_after-more, within_step, some_of, before_all, after_all}
use Rattle.recovery.proofs.store.Store.run.Goals as goal

pub loop-at-init : goal.loop-at-init
loop-at-init g c = record {
  rest = refl;
  limits = refl;
  so_far = refl;
  unfailed = λ u. u;
  faults = refl;
  honest = (λ h. h, λ h. h);
  taken = refl;
  jobs = refl;
  calls = omega arith;
  is_open = λ o. o;
  failed_before = λ failed. (refl, unchanged c.args.self.now);
  moments = λ u o. begins (history_of g.D.Disk c.args.self.now.device) o.synced (before_all c.args.self.now.state c.args.steps.now _ (found_as _ _ (found_open c.args.self.now o)));
  since = λ u o count below.
      let store = c.args.self.now in
      let steps = c.args.steps.now in
      let none : count ≡ 0 = omega (arith, below) in
      subst (λ n. IsKeptFrom n steps store store) (sym none)
      (kept_here steps store store 0 (omega arith) o refl refl
      (begins (history_of g.D.Disk store.device) o.synced (before_all store.state steps _ (found_as _ _ (found_open store o)))));
}

pub returns-in-Err-clause-kept : goal.returns-in-Err-clause-kept
returns-in-Err-clause-kept g c not_fault is_open = c.in-Err.ensures.kept not_fault (c.loop-at.invariant.is_open is_open)

pub returns-in-Err-clause-any_moment : goal.returns-in-Err-clause-any_moment
returns-in-Err-clause-any_moment g c unfailed is_open =
    let step = c.index-steps-at.result in
    goes_on_run (c.loop-at.invariant.moments unfailed is_open)
    (leaves_map (λ content left. some_of c.loop-at.at c.args.self.now.state c.args.steps.now content
    (within_step c.args.self.now.state c.args.steps.now c.loop-at.at step c.loop-at-test.true c.index-steps-at.is c.loop-at.self.state (batch_of step) content c.loop-at.invariant.so_far refl left))
    (c.take_step.ensures.any_moment (c.loop-at.invariant.unfailed unfailed) (c.loop-at.invariant.is_open is_open)))

pub returns-in-Err-clause-acknowledged_before : goal.returns-in-Err-clause-acknowledged_before
returns-in-Err-clause-acknowledged_before g c unfailed is_open content left =
    let step = c.index-steps-at.result in
    within_step c.args.self.now.state c.args.steps.now c.loop-at.at step c.loop-at-test.true c.index-steps-at.is c.loop-at.self.state (batch_of step) content c.loop-at.invariant.so_far refl
    ((c.take_step.ensures.any_moment (c.loop-at.invariant.unfailed unfailed) (c.loop-at.invariant.is_open is_open)).last content left)

-- the steps before stay, though this one was refused
pub returns-in-Err-clause-since_before : goal.returns-in-Err-clause-since_before
returns-in-Err-clause-since_before g c unfailed is_open count below =
    let start = c.args.self.now in
    let steps = c.args.steps.now in
    let at = c.loop-at.at in
    let step = c.index-steps-at.result in
    kept_on steps start c.loop-at.self c.take_step.new.self at count below (c.loop-at.invariant.since unfailed is_open count below)
    (leaves_map (λ content left. within_step start.state steps at step c.loop-at-test.true c.index-steps-at.is c.loop-at.self.state (batch_of step) content c.loop-at.invariant.so_far refl left)
    (c.take_step.ensures.any_moment (c.loop-at.invariant.unfailed unfailed) (c.loop-at.invariant.is_open is_open)))

pub returns-clause-since : goal.returns-clause-since
returns-clause-since g c unfailed is_open count below =
    c.loop-at.invariant.since unfailed is_open count (omega (arith, below))

pub loop-at-preserved : goal.loop-at-preserved
loop-at-preserved g c =
    let step = c.index-steps-at.result in
    let now = c.loop-at.self.state in
    let steps = c.args.steps.now in
    let at = c.loop-at.at in
    let start = c.args.self.now in
    let new = c.take_step.new.self in
    let state : c.take_step.new.self.state ≡ fold now (batch_of step) = c.in_default.ensures.state in
    let so_far : new.state ≡ state_after start.state (take (at + 1) steps) =
    state ∙ ap (λ (s : State). fold s (batch_of step)) c.loop-at.invariant.so_far ∙ sym (state_after-more start.state steps at step c.loop-at-test.true c.index-steps-at.is) in
    let taken = taken_more steps at step c.loop-at-test.true c.index-steps-at.is start c.loop-at.self new c.loop-at.invariant.taken c.in_default.ensures.taken in
    let within : has_failed start ≡ false → IsOpen start → LeavesOnly g.D.Disk (IsAfterSome at (state_of start) steps) (device_of c.loop-at.self) (device_of new) =
    λ unfailed is_open.
    leaves_map (λ content left. within_step start.state steps at step c.loop-at-test.true c.index-steps-at.is now (batch_of step) content c.loop-at.invariant.so_far refl left)
    (c.take_step.ensures.any_moment (c.loop-at.invariant.unfailed unfailed) (c.loop-at.invariant.is_open is_open)) in
    let moments : has_failed start ≡ false → IsOpen start → LeavesOnly g.D.Disk (IsAfterSome 0 (state_of start) steps) (device_of start) (device_of new) =
    λ unfailed is_open.
    goes_on_run (c.loop-at.invariant.moments unfailed is_open) (leaves_map (λ content after. some_of at start.state steps content after) (within unfailed is_open)) in
    record {
      rest =
          ap (λ (s : State). state_after s (drop (at + 1) steps)) (state ∙ ap (λ (s : StoreStep). fold now (batch_of s)) c.index-steps-at.is)
          ∙ sym (at_drop_more (state_after now) steps at step c.loop-at-test.true) ∙ c.loop-at.invariant.rest;
      limits = ap (λ (s : State). s.limits) state ∙ fold-limits now (batch_of step) ∙ c.loop-at.invariant.limits;
      so_far = so_far;
      faults = c.in_default.ensures.faults.good ∙ c.loop-at.invariant.faults;
      unfailed = λ unfailed. c.in_default.ensures.faults.works;
      honest = (λ h. c.loop-at.invariant.honest.0 (c.take_step.ensures.faults.honest.0 h), λ h. c.take_step.ensures.faults.honest.1 (c.loop-at.invariant.honest.1 h));
      taken = taken;
      jobs = c.in_default.ensures.jobs ∙ ap (jobs_behind step) c.loop-at.invariant.jobs
          ∙ sym (jobs_after-more steps at step (kept_jobs start) c.loop-at-test.true c.index-steps-at.is);
      calls = omega (arith, c.loop-at.invariant.calls, c.take_step.ensures.calls);
      is_open = λ is_open. c.in_default.ensures.done (c.loop-at.invariant.is_open is_open);
      failed_before = λ failed.
          let before = (c.loop-at.invariant.failed_before failed).1 in
          absurd (false≢true (sym c.in_default.ensures.faults.works ∙ (c.take_step.ensures.faults.failed_before (before.failed ∙ failed)).1.failed ∙ before.failed ∙ failed));
      moments = moments;
      since = λ unfailed is_open.
          kept_more steps start c.loop-at.self new at (c.loop-at.invariant.since unfailed is_open) (within unfailed is_open)
          (kept_here steps start new (at + 1) (omega (arith, c.loop-at-test.true)) (c.in_default.ensures.done (c.loop-at.invariant.is_open is_open)) so_far taken (moments unfailed is_open));
    }

pub returns-clause-acknowledged : goal.returns-clause-acknowledged
returns-clause-acknowledged g c unfailed is_open content left =
    let store = c.loop-at.self in
    let now_open = c.loop-at.invariant.is_open is_open in
    let all : take c.loop-at.at c.args.steps.now ≡ c.args.steps.now = take_all c.loop-at.at c.args.steps.now (omega arith) in
    let seen : content ≡ g.D.Disk.seen store.device = synced_leaves _ content now_open.synced left in
    after_all c.args.self.now.state store.state c.args.steps.now content (c.loop-at.invariant.so_far ∙ ap (state_after c.args.self.now.state) all)
    (subst (λ (l : List ℕ). FoundAs l store.state) (sym seen) (found_as _ _ (found_open store now_open)))

pub returns-in-Err-clause-failed_before : goal.returns-in-Err-clause-failed_before
returns-in-Err-clause-failed_before g c failed =
    let before = c.loop-at.invariant.failed_before failed in
    let now = c.take_step.ensures.faults.failed_before (before.1.failed ∙ failed) in
    (tt, (before.0, ap (refusal_or Fault) (sym c.in-Err.is ∙ now.0)), unchanged_twice before.1 now.1)

pub returns-clause-taken : goal.returns-clause-taken
returns-clause-taken g c =
    subst (λ (l : List StoreStep). AreTaken l c.args.self.now c.loop-at.self) (take_all c.loop-at.at c.args.steps.now (omega arith)) c.loop-at.invariant.taken

pub returns-in-Err-clause-refused : goal.returns-in-Err-clause-refused
returns-in-Err-clause-refused g c =
    let steps = c.args.steps.now in
    let at = c.loop-at.at in
    let step = c.index-steps-at.result in
    record {
      last = c.loop-at.self;
      taken = c.loop-at.invariant.taken;
      why = λ memory fault.
          subst (λ (s : StoreStep). IsWhy s c.in-Err.refusal c.loop-at.self) (c.index-steps-at.is ∙ get_or_default steps at step Retire c.loop-at-test.true)
          (c.in-Err.ensures.refused memory fault);
      left = λ memory fault. c.in-Err.ensures.untouched memory fault;
    }

-- what it began is that step alone
pub returns-in-Err-clause-begun : goal.returns-in-Err-clause-begun
returns-in-Err-clause-begun g c =
    let steps = c.args.steps.now in
    let at = c.loop-at.at in
    let step = c.index-steps-at.result in
    record {
      last = c.loop-at.self;
      taken = c.loop-at.invariant.taken;
      kept = c.loop-at.invariant.jobs;
      left = subst (λ (s : StoreStep). IsLeftBy s c.in-Err.refusal c.loop-at.self c.take_step.new.self)
          (c.index-steps-at.is ∙ get_or_default steps at step Retire c.loop-at-test.true) c.in-Err.ensures.left;
    }

pub returns-clause-jobs : goal.returns-clause-jobs
returns-clause-jobs g c =
    c.loop-at.invariant.jobs ∙ ap (λ (l : List StoreStep). jobs_after l (kept_jobs c.args.self.now)) (take_all c.loop-at.at c.args.steps.now (omega arith))

pub returns-in-Err-clause-calls : goal.returns-in-Err-clause-calls
returns-in-Err-clause-calls g c = omega (arith, c.loop-at.invariant.calls, c.take_step.ensures.calls, c.loop-at-test.true)

pub returns-clause-calls : goal.returns-clause-calls
returns-clause-calls g c = omega (arith, c.loop-at.invariant.calls)
