use Rattle.std.proofs.Common.{◌≡◌, ◌≢◌, inl, inr, false, refl, ap, sym, subst}
use Rattle.std.specs.Prelude.{OnOk, IfErr}
use Rattle.disk.proofs.CallerLemmas.{leaves_map}
use Rattle.refusal.specs.declared.Refusal.TheVariants.{JournalFull, Stranger, NoMemory, Fault}
use Rattle.revision.specs.State.{State, fold, all_grow}
use Rattle.journal.specs.BatchSpelling.{batch_width}
use Rattle.segments.specs.declared.ring.Ring.{Ring}
use Rattle.segments.specs.Room.{has_room_for}
use Rattle.recovery.specs.declared.run.StoreStep.{StoreStep}
use Rattle.recovery.specs.Open.{has_room, kept_jobs, state_of}
use Rattle.recovery.specs.Begun.{IsLeftBy, jobs_behind}
use Rattle.recovery.specs.Run.{IsTaken, IsWhy, batch_of}
use Rattle.recovery.proofs.Together.{on_ok}
use Rattle.recovery.proofs.Faults.{faults_ok, faults_told, done_by, kept_by}
use Rattle.recovery.proofs.Committing.{commit_of_step, commit_why}
use Rattle.recovery.proofs.Going.{open_unchanged}
use Rattle.recovery.proofs.Refusals.{full_no_fault, refusal_or}
use Rattle.recovery.proofs.Begun.{left_commit, left_milestone, left_retire}
use Rattle.recovery.proofs.PutAtOnce.{retire_why, retired_step}
use Rattle.recovery.proofs.Newest.{on_err}
use Rattle.recovery.proofs.Refusals.{each_err}
use Rattle.recovery.proofs.WhereDue.{of_step, never_of_commit, of_retirement, never_retires, unretired}
use Rattle.recovery.proofs.store.Store.take_step.Goals as goal

-- without a batch the state stays
pub returns-in-Milestone-clause-any_moment : goal.returns-in-Milestone-clause-any_moment
returns-in-Milestone-clause-any_moment g c unfailed is_open = leaves_map (λ content found. inl found) (c.put_document.ensures.goes.any_moment unfailed is_open)

pub returns-in-Retire-clause-any_moment : goal.returns-in-Retire-clause-any_moment
returns-in-Retire-clause-any_moment g c unfailed is_open = leaves_map (λ content found. inl found) (c.retire.ensures.goes.any_moment unfailed is_open)

pub returns-in-Retire-clause-done : goal.returns-in-Retire-clause-done
returns-in-Retire-clause-done g c = done_by c.retire.result c.retire.ensures.faults c.retire.ensures.goes

pub returns-in-Retire-clause-kept : goal.returns-in-Retire-clause-kept
returns-in-Retire-clause-kept g c = kept_by c.retire.result c.retire.ensures.faults c.retire.ensures.goes

-- a retirement is refused where a segment is needed, or as the device fails
pub returns-in-Retire-clause-only : goal.returns-in-Retire-clause-only
returns-in-Retire-clause-only g c = each_err c.retire.result of_retirement c.retire.ensures.needed.only

pub returns-in-Retire-clause-full : goal.returns-in-Retire-clause-full
returns-in-Retire-clause-full g c told = absurd (never_retires c.retire.result JournalFull c.retire.ensures.needed.only (inl refl) told)

pub returns-in-Retire-clause-stranger : goal.returns-in-Retire-clause-stranger
returns-in-Retire-clause-stranger g c told = absurd (never_retires c.retire.result Stranger c.retire.ensures.needed.only (inr refl) told)

pub returns-in-Retire-clause-untouched : goal.returns-in-Retire-clause-untouched
returns-in-Retire-clause-untouched g c = unretired c.args.self.now c.retire.new.self c.retire.result c.retire.ensures.needed.only c.retire.ensures.left

pub returns-in-Retire-clause-state : goal.returns-in-Retire-clause-state
returns-in-Retire-clause-state g c =
    subst (λ (s : StoreStep). OnOk c.retire.result (state_of c.retire.new.self ≡ fold (state_of c.args.self.now) (batch_of s))) (sym c.in-Retire.is)
    (on_ok c.retire.result c.retire.ensures.stays.state)

pub returns-in-Retire-clause-same_state : goal.returns-in-Retire-clause-same_state
returns-in-Retire-clause-same_state g c = on_err c.retire.result c.retire.ensures.stays.state

-- a commit is open afterwards, or leaves the store unchanged
pub returns-in_default-clause-done : goal.returns-in_default-clause-done
returns-in_default-clause-done g c is_open = (c.in_default.ensures.committed.now is_open).goes_on

pub returns-in-Err-clause-kept : goal.returns-in-Err-clause-kept
returns-in-Err-clause-kept g c other is_open = open_unchanged (c.in-Err.ensures.refused.unchanged other) is_open

-- why a commit was refused, and what it left
pub returns-in-Err-clause-full : goal.returns-in-Err-clause-full
returns-in-Err-clause-full g c told =
    let full = ap (refusal_or JournalFull) told in
    let left = c.in-Err.ensures.refused in
    subst (λ (s : StoreStep). has_room c.commit.new.self (batch_of s) ≡ false) (sym c.in-Commit.is)
    (subst (λ (r : Ring). has_room_for r (batch_width c.in-Commit.batch) ≡ false) (sym (left.unchanged (full_no_fault full)).ring) (left.full full))

pub returns-in-Err-clause-stranger : goal.returns-in-Err-clause-stranger
returns-in-Err-clause-stranger g c told =
    let left = c.in-Err.ensures.refused in
    subst (λ (s : StoreStep). all_grow (state_of c.commit.new.self) (batch_of s) ≡ false) (sym c.in-Commit.is)
    (subst (λ (s : State). all_grow s c.in-Commit.batch ≡ false) (sym left.state) (left.stranger (ap (refusal_or Stranger) told)))

pub returns-in-Err-clause-only : goal.returns-in-Err-clause-only
returns-in-Err-clause-only g c = commit_of_step c.in-Err.refusal c.in-Err.ensures.refused.only

pub returns-in-Err-clause-refused : goal.returns-in-Err-clause-refused
returns-in-Err-clause-refused g c not_memory not_fault =
    subst (λ (s : StoreStep). IsWhy s c.in-Err.refusal c.args.self.now) (sym c.in-Commit.is) (commit_why c.in-Err.refusal c.in-Err.ensures.refused not_memory not_fault)

pub returns-in-Err-clause-untouched : goal.returns-in-Err-clause-untouched
returns-in-Err-clause-untouched g c not_memory not_fault = c.in-Err.ensures.refused.unchanged not_fault

-- a commit has a receipt for its answer, and a step has none
pub returns-in-Err-clause-faults : goal.returns-in-Err-clause-faults
returns-in-Err-clause-faults g c = faults_told c.in-Err.refusal c.in-Err.ensures.faults

pub returns-in_default-clause-faults : goal.returns-in_default-clause-faults
returns-in_default-clause-faults g c = faults_ok c.in_default.field-0 tt c.in_default.ensures.faults

-- what the step was
pub returns-in_default-clause-taken : goal.returns-in_default-clause-taken
returns-in_default-clause-taken g c =
    let done = c.in_default.ensures.committed in
    subst (λ (s : StoreStep). IsTaken s c.args.self.now c.commit.new.self) (sym c.in-Commit.is)
    (c.in_default.ensures.faults.works, done.grow, done.state, done.now, done.room)

pub returns-in-Milestone-clause-taken : goal.returns-in-Milestone-clause-taken
returns-in-Milestone-clause-taken g c =
    subst (λ (s : StoreStep). OnOk c.put_document.result (IsTaken s c.args.self.now c.put_document.new.self)) (sym c.in-Milestone.is) c.put_document.ensures.taken

pub returns-in-Retire-clause-taken : goal.returns-in-Retire-clause-taken
returns-in-Retire-clause-taken g c =
    subst (λ (s : StoreStep). OnOk c.retire.result (IsTaken s c.args.self.now c.retire.new.self)) (sym c.in-Retire.is)
    (retired_step c.args.self.now c.retire.new.self c.retire.result c.retire.ensures.retired)

-- why it was refused
pub returns-in-Milestone-clause-refused : goal.returns-in-Milestone-clause-refused
returns-in-Milestone-clause-refused g c =
    subst (λ (s : StoreStep). IfErr c.put_document.result (λ e. e ≢ NoMemory → e ≢ Fault → IsWhy s e c.args.self.now)) (sym c.in-Milestone.is) c.put_document.ensures.due.why

pub returns-in-Retire-clause-refused : goal.returns-in-Retire-clause-refused
returns-in-Retire-clause-refused g c =
    subst (λ (s : StoreStep). IfErr c.retire.result (λ e. e ≢ NoMemory → e ≢ Fault → IsWhy s e c.args.self.now)) (sym c.in-Retire.is)
    (retire_why c.args.self.now c.retire.new.self c.retire.result c.retire.ensures.faults.failed_before c.retire.ensures.needed)

-- the kept jobs after it
pub returns-in_default-clause-jobs : goal.returns-in_default-clause-jobs
returns-in_default-clause-jobs g c = subst (λ (s : StoreStep). kept_jobs c.commit.new.self ≡ jobs_behind s (kept_jobs c.args.self.now)) (sym c.in-Commit.is) c.in_default.ensures.committed.jobs

pub returns-in-Milestone-clause-jobs : goal.returns-in-Milestone-clause-jobs
returns-in-Milestone-clause-jobs g c =
    subst (λ (s : StoreStep). OnOk c.put_document.result (kept_jobs c.put_document.new.self ≡ jobs_behind s (kept_jobs c.args.self.now))) (sym c.in-Milestone.is) c.put_document.ensures.dropped

pub returns-in-Retire-clause-jobs : goal.returns-in-Retire-clause-jobs
returns-in-Retire-clause-jobs g c =
    subst (λ (s : StoreStep). OnOk c.retire.result (kept_jobs c.retire.new.self ≡ jobs_behind s (kept_jobs c.args.self.now))) (sym c.in-Retire.is) (on_ok c.retire.result c.retire.ensures.stays.jobs)

-- what it leaves where it is refused
pub returns-in-Err-clause-left : goal.returns-in-Err-clause-left
returns-in-Err-clause-left g c =
    let e = c.commit.ensures in
    subst (λ (s : StoreStep). IsLeftBy s c.in-Err.refusal c.args.self.now c.commit.new.self) (sym c.in-Commit.is)
    (left_commit c.args.self.now c.commit.new.self c.in-Commit.batch c.in-Err.refusal c.in-Err.ensures.refused e.costs.in_all.calls e.goes.any_moment)

pub returns-in-Milestone-clause-left : goal.returns-in-Milestone-clause-left
returns-in-Milestone-clause-left g c =
    let e = c.put_document.ensures in
    subst (λ (s : StoreStep). IfErr c.put_document.result (λ r. IsLeftBy s r c.args.self.now c.put_document.new.self)) (sym c.in-Milestone.is)
    (left_milestone c.args.self.now c.put_document.new.self c.in-Milestone.document c.in-Milestone.revision c.put_document.result e.stays e.calls e.goes.any_moment e.left)

-- a milestone is refused as the device fails, or as memory runs out, or for its document
pub returns-in-Milestone-clause-only : goal.returns-in-Milestone-clause-only
returns-in-Milestone-clause-only g c = each_err c.put_document.result of_step c.put_document.ensures.due.only

pub returns-in-Milestone-clause-full : goal.returns-in-Milestone-clause-full
returns-in-Milestone-clause-full g c told = absurd (never_of_commit c.put_document.result JournalFull c.put_document.ensures.due.only (inl refl) told)

pub returns-in-Milestone-clause-stranger : goal.returns-in-Milestone-clause-stranger
returns-in-Milestone-clause-stranger g c told = absurd (never_of_commit c.put_document.result Stranger c.put_document.ensures.due.only (inr refl) told)

pub returns-in-Milestone-clause-untouched : goal.returns-in-Milestone-clause-untouched
returns-in-Milestone-clause-untouched g c = each_err c.put_document.result (λ e left. left.untouched) c.put_document.ensures.left

pub returns-in-Milestone-clause-state : goal.returns-in-Milestone-clause-state
returns-in-Milestone-clause-state g c =
    subst (λ (s : StoreStep). OnOk c.put_document.result (state_of c.put_document.new.self ≡ fold (state_of c.args.self.now) (batch_of s))) (sym c.in-Milestone.is)
    (on_ok c.put_document.result c.put_document.ensures.stays.state)

pub returns-in-Milestone-clause-same_state : goal.returns-in-Milestone-clause-same_state
returns-in-Milestone-clause-same_state g c = on_err c.put_document.result c.put_document.ensures.stays.state

pub returns-in-Milestone-clause-done : goal.returns-in-Milestone-clause-done
returns-in-Milestone-clause-done g c = done_by c.put_document.result c.put_document.ensures.faults c.put_document.ensures.goes

pub returns-in-Milestone-clause-kept : goal.returns-in-Milestone-clause-kept
returns-in-Milestone-clause-kept g c = kept_by c.put_document.result c.put_document.ensures.faults c.put_document.ensures.goes

pub returns-in-Retire-clause-left : goal.returns-in-Retire-clause-left
returns-in-Retire-clause-left g c =
    let e = c.retire.ensures in
    subst (λ (s : StoreStep). IfErr c.retire.result (λ r. IsLeftBy s r c.args.self.now c.retire.new.self)) (sym c.in-Retire.is)
    (left_retire c.args.self.now c.retire.new.self c.retire.result e.stays e.left e.calls e.goes.any_moment e.needed.only)
