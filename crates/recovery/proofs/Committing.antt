-- What a commit keeps that left all unchanged, and what one says that is refused.
use Rattle.std.proofs.Common.{◌≡◌, ◌≢◌, ◌⊎◌, inl, inr, List, refl}
use Rattle.std.specs.Prelude.{Result, Ok, Err, IfOk, IfErr}
use Rattle.disk.specs.declared.device.Disk.{Ghosts}
use Rattle.refusal.specs.declared.Refusal.{Refusal}
use Rattle.refusal.specs.declared.Refusal.TheVariants.{JournalFull, Stranger, NoMemory, Fault}
use Rattle.revision.specs.Command.{Taken}
use Rattle.recovery.specs.declared.run.StoreStep.TheVariants.{Commit}
use Rattle.recovery.specs.declared.store.Store.{Store}
use Rattle.recovery.specs.Commit.{IsCommitted, IsCommitRefused}
use Rattle.recovery.specs.Found.{FoundAs}
use Rattle.recovery.specs.Goes.{Goes}
use Rattle.recovery.specs.Moment.{Receipt}
use Rattle.recovery.specs.Open.{IsUnchanged, IsWithOrWithout, state_of, known_cells, kept_jobs}
use Rattle.recovery.specs.Run.{IsOfStep, IsWhy}
use Rattle.recovery.proofs.Commits.{found_before}
use Rattle.recovery.proofs.Going.{goes_still, open_unchanged}

module _ {D : Type 0} {disk : Ghosts D} where
  pub goes_unchanged : (batch : List Taken) {old new : Store D disk} → IsUnchanged old new → Goes (IsWithOrWithout (state_of old) batch) old new
  goes_unchanged batch {old} {new} same = goes_still same.device same.failed (open_unchanged same) (λ is_open. inl (found_before old is_open))

  pub goes_unmoved : (batch : List Taken) (store : Store D disk) → Goes (IsWithOrWithout (state_of store) batch) store store
  goes_unmoved batch store =
      goes_unchanged batch (record { device = refl; shape = refl; ring = refl; cells = refl; marks = refl; jobs = refl; state = refl; failed = refl })

  -- where it was refused, but for a fault of the device, a crash at any moment leaves the state before it
  pub refused_goes : {refusal : Refusal} {batch : List Taken} {old new : Store D disk} → refusal ≢ Fault → IsCommitRefused refusal batch old new
      → Goes (λ content. FoundAs content (state_of old)) old new
  refused_goes {refusal} {batch} {old} {new} other refused =
      let same = refused.unchanged other in goes_still same.device same.failed (open_unchanged same) (λ is_open. found_before old is_open)

  -- whatever is answered, the kept jobs and the cells stay
  pub kept_by_commit : (batch : List Taken) (old new : Store D disk) (result : Result (Receipt D) Refusal) → IfOk result (λ receipt. IsCommitted receipt batch old new)
      → IfErr result (λ e. IsCommitRefused e batch old new) → (kept_jobs new ≡ kept_jobs old) × (known_cells new ≡ known_cells old)
  kept_by_commit batch old new (Ok receipt) done refused = (done.jobs, done.cells)
  kept_by_commit batch old new (Err refusal) done refused = (refused.jobs, refused.cells)

  -- and a refusal that is neither for memory nor for the device's fault says why
  pub commit_why : {batch : List Taken} {old new : Store D disk} (refusal : Refusal) → IsCommitRefused refusal batch old new → refusal ≢ NoMemory → refusal ≢ Fault
      → IsWhy (Commit batch) refusal old
  commit_why {batch} {old} {new} refusal left not_memory not_fault = by_case left.only
    where
      by_case : (refusal ≡ JournalFull) ⊎ ((refusal ≡ Stranger) ⊎ ((refusal ≡ NoMemory) ⊎ (refusal ≡ Fault))) → IsWhy (Commit batch) refusal old
      by_case (inl full) = inl (full, left.full full)
      by_case (inr (inl stranger)) = inr (stranger, left.stranger stranger)
      by_case (inr (inr (inl memory))) = absurd (not_memory memory)
      by_case (inr (inr (inr fault))) = absurd (not_fault fault)

-- what a commit tells, a step may tell
pub commit_of_step : (refusal : Refusal) → (refusal ≡ JournalFull) ⊎ ((refusal ≡ Stranger) ⊎ ((refusal ≡ NoMemory) ⊎ (refusal ≡ Fault))) → IsOfStep refusal
commit_of_step refusal (inl full) = inl (inl full)
commit_of_step refusal (inr (inl stranger)) = inl (inr stranger)
commit_of_step refusal (inr (inr others)) = inr (inr (inr others))
