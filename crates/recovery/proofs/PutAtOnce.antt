-- A step of a run that commits no batch: a milestone, whose job is handed out, composed and put at once, and a retirement.
use Rattle.std.proofs.Common.{◌≡◌, ◌≢◌, ◌⊎◌, ◌↔◌, inl, inr, ℕ, ◌+◌, ◌<◌, Bool, true, false, Option, Some, None, List, [], ◌∷◌, ◌++◌, ◌∙◌, length, take, get_or, refl, sym, ap, subst}
use Rattle.std.specs.Prelude.{Result, Ok, Err, Contains, OnOk, IfErr, IsErrOf, ◌==◌, ◌||◌, nat_lt, if◌then◌else◌, slice_get}
use Rattle.std.proofs.lemmas.List.{take_more}
use Rattle.std.proofs.lemmas.List.Elements.{Contains-push}
use Rattle.disk.specs.declared.device.Disk.{Ghosts}
use Rattle.refusal.specs.Refusal.{IsOneOf}
use Rattle.refusal.specs.declared.Refusal.{Refusal}
use Rattle.refusal.specs.declared.Refusal.TheVariants.{Stranger, NoDocument, Future, TooOld, StillNeeded, NoMemory, Fault}
use Rattle.revision.specs.State.{DocumentRecord, revision_of}
use Rattle.history.specs.Cell.{Pair}
use Rattle.milestone.specs.Job.{Job}
use Rattle.segments.specs.Numbers.{IsOldest}
use Rattle.segments.specs.Ring.{known_numbers}
use Rattle.segments.specs.Slot.{Segment}
use Rattle.recovery.specs.declared.run.StoreStep.{StoreStep}
use Rattle.recovery.specs.declared.run.StoreStep.TheVariants.{Retire}
use Rattle.recovery.specs.declared.store.Store.{Store}
use Rattle.recovery.specs.Cells.{highest_known}
use Rattle.recovery.specs.Jobs.{with_job, without_job, IsJobTo, no_job_for}
use Rattle.recovery.specs.Marks.{without_segment}
use Rattle.recovery.specs.Open.{IsOpen, IsUnchanged, IsRetiredNow, IsPutNow, ring_of, state_of, known_cells, known_marks, kept_jobs, has_failed}
use Rattle.recovery.specs.Retiring.{IsRefusedWhereNeeded, IsRetiredFrom}
use Rattle.recovery.specs.Run.{IsPutAt, IsTaken, AreTaken, IsWhy, MayPut}
use Rattle.recovery.proofs.Refusals.{refusal_or, ok≢err}
use Rattle.recovery.proofs.HandedOut.{none≢some, same_some}
pub use Rattle.std.proofs.lemmas.Bool.{false_from_ne_true as is_false}

-- what is nothing
none_of : {A : Type 0} (one : Option A) → ((a : A) → one ≡ Some a → ⊥) → one ≡ None
none_of None nothing = refl
none_of (Some a) nothing = absurd (nothing a refl)

-- a milestone is never refused as `NoMemory` by its document and its revision
never_memory : (found : Option DocumentRecord) (high revision : ℕ) → no_job_for found high revision ≡ Some NoMemory → ⊥
never_memory None high revision is = let same : NoDocument ≡ NoMemory = same_some _ _ is in cc
never_memory (Some found) high revision is =
    by_case (nat_lt (revision_of found) revision) ((revision == 0) || (nat_lt revision found.past.floor || nat_lt revision high)) is
  where
    by_case : (a b : Bool) → (if a then Some Future else if b then Some TooOld else None) ≡ Some NoMemory → ⊥
    by_case true b told = let same : Future ≡ NoMemory = same_some _ _ told in cc
    by_case false true told = let same : TooOld ≡ NoMemory = same_some _ _ told in cc
    by_case false false told = none≢some told

-- the job that was kept last is kept
pub keeps_it : (job composed : Job) (before after : List Job) → after ≡ with_job job before → composed ≡ job → Contains after composed
keeps_it job composed before after is same =
    subst (λ (l : List Job). Contains l composed) (sym is)
    (subst (Contains (with_job job before)) (sym same) (Contains-push (without_job job.document before) job))

module _ {D : Type 0} {disk : Ghosts D} where
  -- the job that was handed out is kept, so what comes of it is no stranger
  pub no_stranger_put : (job composed : Job) (old mid : Store D disk) (refusal : Refusal) → kept_jobs mid ≡ with_job job (kept_jobs old) → composed ≡ job
      → (IsErrOf {T = Unit {0}} {E = Refusal} (Err refusal) Stranger → ¬ Contains (kept_jobs mid) composed) → IsOneOf refusal (Stranger ∷ NoMemory ∷ Fault ∷ [])
      → (refusal ≡ NoMemory) ⊎ (refusal ≡ Fault)
  no_stranger_put job composed old mid refusal kept same stranger (inl is) =
      absurd (stranger (ap (λ (r : Refusal). Err r) is) (keeps_it job composed (kept_jobs old) (kept_jobs mid) kept same))
  no_stranger_put job composed old mid refusal kept same stranger (inr two) = two

  -- a call that was Ok was one of a store that hadn't failed
  pub had_not_failed : {A : Type 0} {old new : Store D disk} (answer : A)
      → (has_failed old ≡ true → IsErrOf {T = A} {E = Refusal} (Ok answer) Fault × IsUnchanged old new) → has_failed old ≡ false
  had_not_failed {A} {old} answer before = is_false (has_failed old) (λ failed. ok≢err answer Fault (before failed).0)

  -- and hasn't failed afterwards
  pub has_not_failed : {A : Type 0} (old new : Store D disk) (answer : A)
      → (has_failed old ≡ false → (has_failed new ≡ true ↔ IsErrOf {T = A} {E = Refusal} (Ok answer) Fault)) → has_failed old ≡ false → has_failed new ≡ false
  has_not_failed {A} old new answer fails works = is_false (has_failed new) (λ failed. ok≢err answer Fault ((fails works).0 failed))

  -- what was put is the cell of the job that was handed out
  pub put_at : (old new : Store D disk) (document revision : ℕ) (is_open : IsOpen old) (job composed : Job) (cells : List Pair) (table : List (Option Segment)) → cells ≡ is_open.cells
      → table ≡ is_open.table → composed ≡ job → IsJobTo (state_of old).documents document revision job → IsPutNow cells table composed new
      → IsPutAt document revision old is_open new
  put_at old new document revision is_open job composed cells table same same_table is to put = record {
    job = job;
    to = to;
    put = subst (λ (l : List Pair). IsPutNow l is_open.table job new) same
        (subst (λ (t : List (Option Segment)). IsPutNow cells t job new) same_table (subst (λ (j : Job). IsPutNow cells table j new) is put));
  }

  -- what speaks against a milestone is told of its job: nothing does where the job was given, and nothing where memory ran out for it
  pub may_put : {A : Type 0} (old : Store D disk) (document revision : ℕ) (answer : A)
      → ((why : Refusal) → no_job_for (slice_get (state_of old).documents document) (highest_known (known_cells old) document) revision ≡ Some why
      → IsErrOf {T = A} {E = Refusal} (Ok answer) why) → MayPut document revision old
  may_put old document revision answer due = none_of _ (λ why is. ok≢err answer why (due why is))

  pub may_put_still : {A : Type 0} (old : Store D disk) (document revision : ℕ) (refusal : Refusal) → refusal ≡ NoMemory
      → ((why : Refusal) → no_job_for (slice_get (state_of old).documents document) (highest_known (known_cells old) document) revision ≡ Some why
      → IsErrOf {T = A} {E = Refusal} (Err refusal) why) → MayPut document revision old
  may_put_still {A} old document revision refusal memory due =
      let found = slice_get (state_of old).documents document in
      let high = highest_known (known_cells old) document in
      none_of (no_job_for found high revision) (λ why is. never_memory found high revision (is ∙ ap (λ (r : Refusal). Some r) (sym (ap (refusal_or {T = A} why) (due why is)) ∙ memory)))

  -- one step more was taken
  pushed : (first : List StoreStep) (step : StoreStep) (old mid new : Store D disk) → AreTaken first old mid → IsTaken step mid new → AreTaken (first ++ step ∷ []) old new
  pushed [] step old mid new same taken = (new, subst (λ (s : Store D disk). IsTaken step s new) same taken, refl)
  pushed (one ∷ first) step old mid new before taken = (before.0, before.1, pushed first step before.0 mid new before.2 taken)

  pub taken_more : (steps : List StoreStep) (i : ℕ) (step : StoreStep) → i < length steps → step ≡ get_or steps i step → (old mid new : Store D disk)
      → AreTaken (take i steps) old mid → IsTaken step mid new → AreTaken (take (i + 1) steps) old new
  taken_more steps i step inside is old mid new before taken =
      subst (λ (l : List StoreStep). AreTaken l old new) (sym (take_more steps i step inside))
      (pushed (take i steps) (get_or steps i step) old mid new before (subst (λ (s : StoreStep). IsTaken s mid new) is taken))

  -- a refusal that isn't told of a failed device is one of a store that hadn't failed
  pub refused_unfailed : {A : Type 0} (old new : Store D disk) (refusal : Refusal)
      → (has_failed old ≡ true → IsErrOf {T = A} {E = Refusal} (Err refusal) Fault × IsUnchanged old new) → refusal ≢ Fault → has_failed old ≡ false
  refused_unfailed {A} old new refusal before other = is_false (has_failed old) (λ failed. other (ap (refusal_or {T = A} Fault) (before failed).0))

  -- why a retirement was refused
  pub retire_why : {A : Type 0} (old new : Store D disk) (result : Result A Refusal) → (has_failed old ≡ true → IsErrOf result Fault × IsUnchanged old new)
      → IsRefusedWhereNeeded result old → IfErr result (λ e. e ≢ NoMemory → e ≢ Fault → IsWhy Retire e old)
  retire_why old new (Ok answer) before needed = tt
  retire_why {A} old new (Err refusal) before needed = λ memory fault. by_case fault needed.only
    where
      by_case : refusal ≢ Fault → (refusal ≡ StillNeeded) ⊎ (refusal ≡ Fault) → IsWhy Retire refusal old
      by_case fault (inl is) =
          (is, λ is_open. (needed.exact (refused_unfailed {A = A} old new refusal before fault) is_open).0 (ap (λ (r : Refusal). Err r) is))
      by_case fault (inr is) = absurd (fault is)

  -- what was retired now
  pub retired_now : {A : Type 0} (old new : Store D disk) (result : Result A Refusal) → OnOk result (IsRetiredFrom old new)
      → OnOk result ((is_open : IsOpen old) → IsRetiredNow is_open.cells is_open.table new)
  retired_now old new (Ok answer) done = λ is_open. (done.taken.2 is_open).retired
  retired_now old new (Err refusal) done = tt

  pub retired_step : {A : Type 0} (old new : Store D disk) (result : Result A Refusal) → OnOk result (IsRetiredFrom old new) → OnOk result (IsTaken Retire old new)
  retired_step old new (Ok answer) done = done.taken
  retired_step old new (Err refusal) done = tt

  pub retired_marks : {A : Type 0} (old new : Store D disk) (result : Result A Refusal) → OnOk result (IsRetiredFrom old new)
      → OnOk result ((slot segment : ℕ) → IsOldest (known_numbers (ring_of old)) slot segment → known_marks new ≡ without_segment segment (known_marks old))
  retired_marks old new (Ok answer) done = done.marks
  retired_marks old new (Err refusal) done = tt
