-- What calls of a store say of its device's faults, one after another, and what that says of the store.
use Rattle.std.proofs.Common.{◌≡◌, ◌≢◌, ◌↔◌, ℕ, Bool, List, false, refl, sym, ◌∙◌, ap, subst}
use Rattle.std.specs.Prelude.{Result, Ok, Err, OnOk, IfErr, IsErrOf}
use Rattle.std.proofs.lemmas.Bool.{false≢true}
use Rattle.disk.specs.declared.device.Disk.{Ghosts}
use Rattle.disk.specs.Device.{Rose}
use Rattle.disk.specs.Crash.{LeavesOnly}
use Rattle.refusal.specs.declared.Refusal.{Refusal}
use Rattle.refusal.specs.declared.Refusal.TheVariants.{Fault}
use Rattle.recovery.specs.declared.store.Store.{Store}
use Rattle.recovery.specs.Faults.{FailsAtFaults}
use Rattle.recovery.specs.Found.{FoundAs}
use Rattle.recovery.specs.Goes.{Goes}
use Rattle.recovery.specs.Unwritten.{IsUnchangedButJobs}
use Rattle.recovery.specs.Open.{IsOpen, IsUnchanged, device_of, state_of, has_failed}
use Rattle.recovery.proofs.Refusals.{refusal_or, ok≢err}
use Rattle.recovery.proofs.Going.{goes_call, goes_still}
use Rattle.recovery.proofs.Runs.{found_as, found_open}
use Rattle.recovery.proofs.PutAtOnce.{is_false, refused_unfailed}

module _ {D : Type 0} {disk : Ghosts D} where
  -- no call of a store that had not failed, where no fault is told
  pub faults_none : {A : Type 0} (store : Store D disk) (result : Result A Refusal) → has_failed store ≡ false → ¬ IsErrOf result Fault → FailsAtFaults result store store
  faults_none store (Ok answer) works other = record {
    failed_before = λ failed. absurd (false≢true (sym works ∙ failed));
    fault = λ told. absurd (other told);
    no_fault = tt;
    good = refl;
    fails = λ unfailed. (λ failed. absurd (false≢true (sym works ∙ failed)), λ told. absurd (other told));
    works = works;
    honest = (λ honest. honest, λ honest. honest);
  }
  faults_none store (Err refusal) works other = record {
    failed_before = λ failed. absurd (false≢true (sym works ∙ failed));
    fault = λ told. absurd (other told);
    no_fault = λ away. refl;
    good = tt;
    fails = λ unfailed. (λ failed. absurd (false≢true (sym works ∙ failed)), λ told. absurd (other told));
    works = tt;
    honest = (λ honest. honest, λ honest. honest);
  }

  -- a call after one that was Ok
  pub faults_on : {A B : Type 0} {old mid new : Store D disk} (answer : A) (result : Result B Refusal)
      → FailsAtFaults (Ok answer) old mid → FailsAtFaults result mid new → FailsAtFaults result old new
  faults_on {A} {B} {old} {mid} {new} answer result first second = record {
    failed_before = λ failed. absurd (ok≢err answer Fault (first.failed_before failed).0);
    fault = λ told works. subst (λ n. Rose n (disk.faults (device_of new))) first.good (second.fault told first.works);
    no_fault = subst (λ n. IfErr result (λ e. e ≢ Fault → disk.faults (device_of new) ≡ n)) first.good second.no_fault;
    good = subst (λ n. OnOk result (disk.faults (device_of new) ≡ n)) first.good second.good;
    fails = λ works. second.fails first.works;
    works = second.works;
    honest = (λ honest. first.honest.0 (second.honest.0 honest), λ honest. second.honest.1 (first.honest.1 honest));
  }

  -- one that was Ok, told by another answer
  pub faults_ok : {A B : Type 0} {old new : Store D disk} (answer : A) (told : B) → FailsAtFaults (Ok answer) old new → FailsAtFaults (Ok told) old new
  faults_ok {A} {B} {old} {new} answer told faults = record {
    failed_before = λ failed. absurd (ok≢err answer Fault (faults.failed_before failed).0);
    fault = λ is. absurd (ok≢err told Fault is);
    no_fault = tt;
    good = faults.good;
    fails = λ works. (λ failed. absurd (ok≢err answer Fault ((faults.fails works).0 failed)), λ is. absurd (ok≢err told Fault is));
    works = faults.works;
    honest = faults.honest;
  }

  -- one that was refused, told by itself or by another refusal, where the one is a fault exactly when the other is
  pub faults_as : {A B : Type 0} {old new : Store D disk} (refusal told : Refusal) → (told ≡ Fault → refusal ≡ Fault) → (refusal ≡ Fault → told ≡ Fault)
      → FailsAtFaults {A = A} (Err refusal) old new → FailsAtFaults {A = B} (Err told) old new
  faults_as {A} {B} {old} {new} refusal told there back faults = record {
    failed_before = λ failed. let before = faults.failed_before failed in (tells before.0, before.1);
    fault = λ is. faults.fault (told_by is);
    no_fault = λ other. faults.no_fault (λ is. other (back is));
    good = tt;
    fails = λ works. (λ failed. tells ((faults.fails works).0 failed), λ is. (faults.fails works).1 (told_by is));
    works = tt;
    honest = faults.honest;
  }
    where
      tells : IsErrOf {T = A} {E = Refusal} (Err refusal) Fault → IsErrOf {T = B} {E = Refusal} (Err told) Fault
      tells is = ap (λ (r : Refusal). Err r) (back (ap (refusal_or {T = A} Fault) is))

      told_by : IsErrOf {T = B} {E = Refusal} (Err told) Fault → IsErrOf {T = A} {E = Refusal} (Err refusal) Fault
      told_by is = ap (λ (r : Refusal). Err r) (there (ap (refusal_or {T = B} Fault) is))

  pub faults_told : {A B : Type 0} {old new : Store D disk} (refusal : Refusal) → FailsAtFaults {A = A} (Err refusal) old new → FailsAtFaults {A = B} (Err refusal) old new
  faults_told refusal faults = faults_as refusal refusal (λ is. is) (λ is. is) faults

  -- what one call keeps, by what it says of the faults
  pub goes_by : {P : List ℕ → Type 0} {A : Type 0} {old new : Store D disk} (result : Result A Refusal) → FailsAtFaults result old new
      → (has_failed old ≡ false → IsOpen old → LeavesOnly disk P (device_of old) (device_of new))
      → OnOk result (IsOpen old → IsOpen new) → IfErr result (λ e. e ≢ Fault → IsOpen old → IsOpen new) → Goes P old new
  goes_by result faults any_moment done kept = goes_call result faults.failed_before faults.fails any_moment done kept

  -- a refusal that is no fault leaves a store that works
  pub works_still : {A : Type 0} {old new : Store D disk} (refusal : Refusal) → FailsAtFaults {A = A} (Err refusal) old new → refusal ≢ Fault → has_failed new ≡ false
  works_still {A} {old} {new} refusal faults other =
      is_false (has_failed new) (λ failed. other (ap (refusal_or {T = A} Fault) ((faults.fails (refused_unfailed {A = A} old new refusal faults.failed_before other)).0 failed)))

  -- so it is open where it was
  pub kept_by : {A : Type 0} {P : List ℕ → Type 0} {old new : Store D disk} (result : Result A Refusal) → FailsAtFaults result old new → Goes P old new
      → IfErr result (λ e. e ≢ Fault → IsOpen old → IsOpen new)
  kept_by (Ok answer) faults goes = tt
  kept_by (Err refusal) faults goes = λ other. goes.opens (works_still refusal faults other)

  pub done_by : {A : Type 0} {P : List ℕ → Type 0} {old new : Store D disk} (result : Result A Refusal) → FailsAtFaults result old new → Goes P old new
      → OnOk result (IsOpen old → IsOpen new)
  done_by (Ok answer) faults goes = goes.opens faults.works
  done_by (Err refusal) faults goes = tt

  -- the kept jobs alone changed afterwards
  pub faults_but_jobs : {A : Type 0} (result : Result A Refusal) (old mid new : Store D disk) → has_failed old ≡ false → IsUnchangedButJobs mid new
      → FailsAtFaults result old mid → FailsAtFaults result old new
  faults_but_jobs result old mid new works same faults = record {
    failed_before = λ failed. absurd (false≢true (sym works ∙ failed));
    fault = λ told worked. subst (λ (d : D). Rose (disk.faults (device_of old)) (disk.faults d)) (sym same.device) (faults.fault told worked);
    no_fault = subst (λ (d : D). IfErr result (λ e. e ≢ Fault → disk.faults d ≡ disk.faults (device_of old))) (sym same.device) faults.no_fault;
    good = subst (λ (d : D). OnOk result (disk.faults d ≡ disk.faults (device_of old))) (sym same.device) faults.good;
    fails = λ worked. (λ failed. (faults.fails worked).0 (sym same.failed ∙ failed), λ told. same.failed ∙ (faults.fails worked).1 told);
    works = subst (λ (b : Bool). OnOk result (b ≡ false)) (sym same.failed) faults.works;
    honest = subst (λ (d : D). disk.honest d ↔ disk.honest (device_of old)) (sym same.device) faults.honest;
  }

  pub goes_but_jobs : (old new : Store D disk) → IsUnchangedButJobs old new → (IsOpen old → IsOpen new) → Goes (λ content. FoundAs content (state_of old)) old new
  goes_but_jobs old new same opens = goes_still same.device same.failed opens (λ is_open. found_as _ _ (found_open old is_open))
