-- What a step of a run leaves that was refused.
use Rattle.std.proofs.Common.{◌≡◌, ◌⊎◌, inl, inr, ℕ, ◌+◌, ◌≤◌, ◌<◌, false, List, [], ◌∷◌, ◌++◌, length, take, get_or, refl, ap, sym, arith, ◌∙◌}
use Rattle.std.proofs.lemmas.List.{take_more}
use Rattle.std.specs.Prelude.{Result, Ok, Err, IfErr}
use Rattle.disk.specs.declared.device.Disk.{Ghosts}
use Rattle.disk.specs.Crash.{LeavesOnly}
use Rattle.disk.proofs.CallerLemmas.{leaves_map}
use Rattle.refusal.specs.Refusal.{IsOneOf}
use Rattle.refusal.specs.declared.Refusal.{Refusal}
use Rattle.refusal.specs.declared.Refusal.TheVariants.{StillNeeded, NoMemory, Fault}
use Rattle.revision.specs.Command.{Taken}
use Rattle.milestone.specs.Job.{Job}
use Rattle.recovery.specs.declared.run.StoreStep.TheVariants.{Commit, Milestone, Retire}
use Rattle.recovery.specs.declared.store.Store.{Store}
use Rattle.recovery.specs.Commit.{IsCommitRefused}
use Rattle.recovery.specs.Found.{FoundAs}
use Rattle.recovery.specs.Milestones.{IsUnput, LeavesOthers}
use Rattle.recovery.specs.Retiring.{IsUnretired, LeavesDocuments}
use Rattle.recovery.specs.Open.{IsOpen, IsWithOrWithout, device_of, state_of, has_failed}
use Rattle.recovery.specs.declared.run.StoreStep.{StoreStep}
use Rattle.recovery.specs.Begun.{IsLeftBy, jobs_behind, jobs_after}
use Rattle.recovery.proofs.Refusals.{memory_no_fault}

module _ {D : Type 0} {disk : Ghosts D} (old new : Store D disk) where
  pub left_commit : (batch : List Taken) (refusal : Refusal) → IsCommitRefused refusal batch old new
      → length (disk.past (device_of new)) ≤ length (disk.past (device_of old)) + 8
      → (has_failed old ≡ false → IsOpen old → LeavesOnly disk (IsWithOrWithout (state_of old) batch) (device_of old) (device_of new)) → IsLeftBy (Commit batch) refusal old new
  left_commit batch refusal left calls any_moment = record {
    state = left.state;
    marks = left.marks;
    jobs = left.jobs;
    calls = calls;
    any_moment = any_moment;
    memory = λ is. left.unchanged (memory_no_fault is);
  }

  pub left_milestone : {A : Type 0} (document revision : ℕ) (result : Result A Refusal) → LeavesOthers document old new
      → length (disk.past (device_of new)) ≤ length (disk.past (device_of old)) + 6
      → (has_failed old ≡ false → IsOpen old → LeavesOnly disk (λ content. FoundAs content (state_of old)) (device_of old) (device_of new))
      → IfErr result (λ r. IsUnput document revision r old new) → IfErr result (λ r. IsLeftBy (Milestone document revision) r old new)
  left_milestone document revision (Ok answer) stays calls any_moment left = tt
  left_milestone document revision (Err refusal) stays calls any_moment left = record {
    state = stays.state;
    marks = stays.marks;
    jobs = stays.jobs;
    calls = omega (arith, calls);
    any_moment = λ unfailed is_open. leaves_map (λ content found. inl found) (any_moment unfailed is_open);
    memory = left.memory;
  }

  pub left_retire : {A : Type 0} (result : Result A Refusal) → LeavesDocuments old new → IfErr result (λ r. IsUnretired r old new)
      → length (disk.past (device_of new)) ≤ length (disk.past (device_of old)) + 2
      → (has_failed old ≡ false → IsOpen old → LeavesOnly disk (λ content. FoundAs content (state_of old)) (device_of old) (device_of new))
      → IfErr result (λ e. IsOneOf e (StillNeeded ∷ Fault ∷ [])) → IfErr result (λ r. IsLeftBy Retire r old new)
  left_retire (Ok answer) stays left calls any_moment only = tt
  left_retire (Err refusal) stays left calls any_moment only = record {
    state = stays.state;
    marks = left.marks;
    jobs = stays.jobs;
    calls = omega (arith, calls);
    any_moment = λ unfailed is_open. leaves_map (λ content found. inl found) (any_moment unfailed is_open);
    memory = no_memory only;
  }
    where
      no_memory : (refusal ≡ StillNeeded) ⊎ (refusal ≡ Fault) → refusal ≡ NoMemory → ⊥
      no_memory (inl is) memory = let same : StillNeeded ≡ NoMemory = sym is ∙ memory in cc
      no_memory (inr is) memory = let same : Fault ≡ NoMemory = sym is ∙ memory in cc

jobs_after-append : (first : List StoreStep) (step : StoreStep) (jobs : List Job) → jobs_after (first ++ step ∷ []) jobs ≡ jobs_behind step (jobs_after first jobs)
jobs_after-append [] step jobs = refl
jobs_after-append (one ∷ first) step jobs = jobs_after-append first step (jobs_behind one jobs)

-- the jobs that are kept after one step more
pub jobs_after-more : (steps : List StoreStep) (i : ℕ) (step : StoreStep) (jobs : List Job) → i < length steps → step ≡ get_or steps i step
    → jobs_after (take (i + 1) steps) jobs ≡ jobs_behind step (jobs_after (take i steps) jobs)
jobs_after-more steps i step jobs inside is =
    ap (λ (l : List StoreStep). jobs_after l jobs) (take_more steps i step inside) ∙ jobs_after-append (take i steps) (get_or steps i step) jobs
    ∙ ap (λ (s : StoreStep). jobs_behind s (jobs_after (take i steps) jobs)) (sym is)
