use Rattle.std.proofs.Common.{◌≡◌, ◌≢◌, ◌≤◌, ◌<◌, ◌+◌, List, length, get_or, refl, sym, ◌∙◌, ap, subst, arith}
use Rattle.std.specs.Prelude.{Ok, Err}
use Rattle.refusal.specs.declared.Refusal.TheVariants.{Fault}
use Rattle.revision.specs.State.{State}
use Rattle.milestone.specs.Job.{Job}
use Rattle.recovery.specs.Open.{kept_jobs, state_of}
use Rattle.recovery.specs.declared.group.Member.{Member}
use Rattle.recovery.specs.Freed.{most_bytes}
use Rattle.recovery.specs.steps.Freeing.{bytes_to, bytes_of, AreReached, AreCoveredTo, IsGathered}
use Rattle.recovery.proofs.CellsAlone.{cells_still, cells_then, cells_but_jobs}
use Rattle.recovery.proofs.CoveredDocuments.{covered_none, covered_more, half_covered, jobs_more, jobs_without, count_to}
use Rattle.recovery.proofs.DroppedJobs.{fewer_outside}
use Rattle.recovery.proofs.Faults.{faults_none, faults_on, faults_ok, faults_but_jobs, goes_but_jobs}
use Rattle.recovery.proofs.FullGroups.{full_none, full_more, full_before, bytes_within, by_none, by_more, by_same}
use Rattle.recovery.proofs.Going.{goes_nowhere, goes_same}
use Rattle.recovery.proofs.OtherJobs.{fewer_without}
use Rattle.recovery.proofs.Raising.{keeps_on}
use Rattle.recovery.proofs.Refusals.{ok≢err}
use Rattle.recovery.proofs.Gathered.{told_fault, memory_or_needed}
use Rattle.recovery.proofs.store.Store.cover_documents.Goals as goal

pub loop-from-init : goal.loop-from-init
loop-from-init g c = record {
  within = omega arith;
  faults = faults_none c.args.self.now (Ok tt) c.requires.working (ok≢err tt Fault);
  keeps = record { state = refl; ring = refl; marks = refl };
  outside = cells_still c.args.self.now;
  goes = goes_nowhere c.args.self.now;
  covered = covered_none (λ n. get_or c.args.marked.now n 0) c.args.self.now;
  calls = omega arith;
  syncs = (0, full_none c.args.marked.now (state_of c.args.self.now), by_none c.args.self.now);
  jobs = λ document none. refl;
  few_jobs = omega arith;
}

pub loop-from-preserved : goal.loop-from-preserved
loop-from-preserved g c =
    let start = c.args.self.now in
    let store = c.loop-from.self in
    let new = c.put_group.new.self in
    let marked = c.args.marked.now in
    let from = c.loop-from.from in
    let group = c.in-Ok.group in
    let before = c.loop-from.invariant in
    let ms : List Member = c.deref.result.now in
    let gathered : IsGathered marked from group.end ms store = subst (λ (l : List Member). IsGathered marked from group.end l store) (sym c.deref.ensures.value) c.in-Ok.ensures.gathered in
    record {
      within = c.in-Ok.ensures.goes_on.1;
      faults = faults_on tt (Ok tt) before.faults (faults_ok c.in_default.field-0 tt c.in_default.ensures.faults);
      keeps = keeps_on before.keeps c.put_group.ensures.keeps;
      outside = cells_then start store new before.outside c.put_group.ensures.outside;
      goes = goes_same before.keeps.state before.goes c.put_group.ensures.goes;
      covered = λ is_open.
          covered_more marked from group.end ms start store new is_open (omega (arith, c.in-Ok.ensures.goes_on.0)) (before.covered is_open) gathered before.keeps.state
          (c.in_default.ensures.put (before.covered is_open).goes_on) c.put_group.ensures.dropped;
      calls = omega (arith, before.calls, c.put_group.ensures.calls, gathered.count);
      syncs =
          let sum : bytes_to marked (state_of start) from + bytes_of ms ≡ bytes_to marked (state_of start) group.end =
          subst (λ (s : State). bytes_to marked s from + bytes_of ms ≡ bytes_to marked s group.end) before.keeps.state gathered.bytes in
          let full : group.end < length marked → most_bytes ≤ bytes_of ms =
          subst (λ (l : List Member). group.end < length marked → most_bytes ≤ bytes_of l) (sym c.deref.ensures.value) c.in-Ok.ensures.full in (
            before.syncs.0 + 1,
            full_more marked (state_of start) from group.end before.syncs.0 ms c.loop-from-test.true sum before.syncs.1 full,
            by_more before.syncs.0 start store new before.faults.good before.syncs.2 c.put_group.ensures.syncs,
          );
      jobs = λ document none. jobs_more marked from group.end ms start store new gathered c.put_group.ensures.dropped document none ∙ before.jobs document none;
      few_jobs = omega (arith, before.few_jobs, ap (λ (l : List Job). length l) c.put_group.ensures.dropped, fewer_outside ms (kept_jobs store));
    }

-- a document couldn't be given its milestone
pub returns-in-Err-clause-needed : goal.returns-in-Err-clause-needed
returns-in-Err-clause-needed g c told is_open reached =
    let before = c.loop-from.invariant in
    c.in-Err.ensures.needed (memory_or_needed c.in-Err.back.refusal told) (before.covered is_open).goes_on
    (subst (AreReached c.args.marked.now) (sym before.keeps.state) reached)

pub returns-in-Err-clause-half : goal.returns-in-Err-clause-half
returns-in-Err-clause-half g c other is_open =
    half_covered c.loop-from.from (λ n. get_or c.args.marked.now n 0) c.args.self.now c.loop-from.self c.drop_job.new.self is_open (c.loop-from.invariant.covered is_open)
    c.in-Err.back.document c.in-Err.ensures.needs.0 c.in-Err.ensures.needs.1 c.drop_job.ensures.same c.drop_job.ensures.open c.drop_job.ensures.jobs

pub returns-in-Err-clause-calls : goal.returns-in-Err-clause-calls
returns-in-Err-clause-calls g c =
    omega (arith, c.loop-from.invariant.calls, count_to c.args.marked.now c.loop-from.from, ap (λ d. length (g.D.Disk.past d)) c.drop_job.ensures.same.device)

pub returns-in-Err-clause-syncs : goal.returns-in-Err-clause-syncs
returns-in-Err-clause-syncs g c =
    let start = c.args.self.now in
    let marked = c.args.marked.now in
    let before = c.loop-from.invariant.syncs in
    let up = bytes_within (state_of start) (λ n. get_or marked n 0) c.loop-from.from (length marked) c.loop-from.invariant.within in
    (before.0, omega (arith, before.1.before, up), by_same before.0 start c.loop-from.self c.drop_job.new.self c.drop_job.ensures.same.device before.2)

pub returns-in-Err-clause-keeps : goal.returns-in-Err-clause-keeps
returns-in-Err-clause-keeps g c =
    let before = c.loop-from.invariant.keeps in
    let same = c.drop_job.ensures.same in
    record { state = same.state ∙ before.state; ring = same.ring ∙ before.ring; marks = same.marks ∙ before.marks }

pub returns-in-Err-clause-outside : goal.returns-in-Err-clause-outside
returns-in-Err-clause-outside g c = cells_but_jobs c.args.self.now c.loop-from.self c.drop_job.new.self c.loop-from.invariant.outside c.drop_job.ensures.same

pub returns-in-Err-clause-jobs : goal.returns-in-Err-clause-jobs
returns-in-Err-clause-jobs g c document none =
    jobs_without c.in-Err.back.document (λ n. get_or c.args.marked.now n 0) c.loop-from.self c.drop_job.new.self c.in-Err.ensures.needs.1 c.drop_job.ensures.jobs document none
    ∙ c.loop-from.invariant.jobs document none

pub returns-in-Err-clause-no_more_jobs : goal.returns-in-Err-clause-no_more_jobs
returns-in-Err-clause-no_more_jobs g c =
    omega (arith, c.loop-from.invariant.few_jobs, ap (λ (l : List Job). length l) c.drop_job.ensures.jobs, fewer_without c.in-Err.back.document (kept_jobs c.loop-from.self))

pub returns-in-Err-clause-faults : goal.returns-in-Err-clause-faults
returns-in-Err-clause-faults g c =
    let store = c.loop-from.self in
    let works = c.loop-from.invariant.faults.works in
    faults_on tt (Err c.in-Err.back.refusal) c.loop-from.invariant.faults
    (faults_but_jobs (Err c.in-Err.back.refusal) store store c.drop_job.new.self works c.drop_job.ensures.same
    (faults_none store (Err c.in-Err.back.refusal) works (told_fault c.in-Err.back.refusal c.in-Err.ensures.only)))

pub returns-in-Err-clause-goes : goal.returns-in-Err-clause-goes
returns-in-Err-clause-goes g c =
    goes_same c.loop-from.invariant.keeps.state c.loop-from.invariant.goes (goes_but_jobs c.loop-from.self c.drop_job.new.self c.drop_job.ensures.same c.drop_job.ensures.open)

-- the device failed
pub returns-in-Err-put_group-clause-calls : goal.returns-in-Err-put_group-clause-calls
returns-in-Err-put_group-clause-calls g c =
    omega (arith, c.loop-from.invariant.calls, c.put_group.ensures.calls, c.in-Ok.ensures.gathered.count, count_to c.args.marked.now c.in-Ok.group.end)

pub returns-in-Err-put_group-clause-syncs : goal.returns-in-Err-put_group-clause-syncs
returns-in-Err-put_group-clause-syncs g c =
    let start = c.args.self.now in
    let marked = c.args.marked.now in
    let from = c.loop-from.from in
    let end = c.in-Ok.group.end in
    let ms : List Member = c.in-Ok.group.members.items in
    let before = c.loop-from.invariant in
    let sum : bytes_to marked (state_of start) from + bytes_of ms ≡ bytes_to marked (state_of start) end =
    subst (λ (s : State). bytes_to marked s from + bytes_of ms ≡ bytes_to marked s end) before.keeps.state c.in-Ok.ensures.gathered.bytes in
    let full = full_before marked (state_of start) from end before.syncs.0 ms c.loop-from-test.true sum before.syncs.1 in
    let up = bytes_within (state_of start) (λ n. get_or marked n 0) end (length marked) c.in-Ok.ensures.goes_on.1 in (
      before.syncs.0 + 1,
      omega (arith, full, up),
      by_more before.syncs.0 start c.loop-from.self c.put_group.new.self before.faults.good before.syncs.2 c.put_group.ensures.syncs,
    )

pub returns-in-Err-put_group-clause-keeps : goal.returns-in-Err-put_group-clause-keeps
returns-in-Err-put_group-clause-keeps g c = keeps_on c.loop-from.invariant.keeps c.put_group.ensures.keeps

pub returns-in-Err-put_group-clause-outside : goal.returns-in-Err-put_group-clause-outside
returns-in-Err-put_group-clause-outside g c = cells_then c.args.self.now c.loop-from.self c.put_group.new.self c.loop-from.invariant.outside c.put_group.ensures.outside

pub returns-in-Err-put_group-clause-jobs : goal.returns-in-Err-put_group-clause-jobs
returns-in-Err-put_group-clause-jobs g c document none =
    jobs_more c.args.marked.now c.loop-from.from c.in-Ok.group.end c.deref.result.now c.args.self.now c.loop-from.self c.put_group.new.self
    (subst (λ (l : List Member). IsGathered c.args.marked.now c.loop-from.from c.in-Ok.group.end l c.loop-from.self) (sym c.deref.ensures.value) c.in-Ok.ensures.gathered)
    c.put_group.ensures.dropped document none ∙ c.loop-from.invariant.jobs document none

pub returns-in-Err-put_group-clause-no_more_jobs : goal.returns-in-Err-put_group-clause-no_more_jobs
returns-in-Err-put_group-clause-no_more_jobs g c =
    omega (
      arith,
      c.loop-from.invariant.few_jobs,
      ap (λ (l : List Job). length l) c.put_group.ensures.dropped,
      fewer_outside c.deref.result.now (kept_jobs c.loop-from.self),
    )

pub returns-in-Err-put_group-clause-faults : goal.returns-in-Err-put_group-clause-faults
returns-in-Err-put_group-clause-faults g c = faults_on tt (Err c.in-Err-put_group.refusal) c.loop-from.invariant.faults c.in-Err-put_group.ensures.faults

pub returns-in-Err-put_group-clause-goes : goal.returns-in-Err-put_group-clause-goes
returns-in-Err-put_group-clause-goes g c = goes_same c.loop-from.invariant.keeps.state c.loop-from.invariant.goes c.put_group.ensures.goes

-- after the last document
pub returns-clause-covered : goal.returns-clause-covered
returns-clause-covered g c is_open =
    let all : c.loop-from.from ≡ length c.args.marked.now = omega (arith, c.loop-from.invariant.within, c.loop-from-test.false) in
    subst (λ n. AreCoveredTo n (λ k. get_or c.args.marked.now k 0) c.args.self.now is_open c.loop-from.self) all (c.loop-from.invariant.covered is_open)

pub returns-clause-calls : goal.returns-clause-calls
returns-clause-calls g c = omega (arith, c.loop-from.invariant.calls, count_to c.args.marked.now c.loop-from.from)

pub returns-clause-syncs : goal.returns-clause-syncs
returns-clause-syncs g c =
    let start = c.args.self.now in
    let marked = c.args.marked.now in
    let before = c.loop-from.invariant.syncs in
    let up = bytes_within (state_of start) (λ n. get_or marked n 0) c.loop-from.from (length marked) c.loop-from.invariant.within in
    (before.0, omega (arith, before.1.before, up), before.2)
