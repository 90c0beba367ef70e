-- A commit after a segment was freed for it.
use Rattle.std.proofs.Common.{◌≡◌, ◌⊎◌, inl, inr, refl, ℕ, ◌+◌, ◌≤◌, List, length, sym, ◌∙◌, ap, arith}
use Rattle.std.specs.Prelude.{Result, Ok, Err, IfErr, IsErrOf}
use Rattle.disk.specs.declared.device.Disk.{Ghosts}
use Rattle.refusal.specs.declared.Refusal.{Refusal}
use Rattle.refusal.specs.declared.Refusal.TheVariants.{JournalFull, StillNeeded, Stranger, NoMemory, Fault}
use Rattle.milestone.specs.Job.{Job}
use Rattle.recovery.specs.declared.store.Store.{Store}
use Rattle.recovery.specs.Freed.{HasFew, IsUnfreed, KeepsOthers, CostsAtMost}
use Rattle.recovery.specs.Open.{device_of, kept_jobs}
use Rattle.recovery.proofs.Refusals.{ok≢err, refusal_or}
use Rattle.recovery.proofs.SparedJobs.{spared_same}

-- what a retirement tells, freeing tells
pub needed_or_fault : (refusal : Refusal) → (refusal ≡ StillNeeded) ⊎ (refusal ≡ Fault) → (refusal ≡ StillNeeded) ⊎ ((refusal ≡ NoMemory) ⊎ (refusal ≡ Fault))
needed_or_fault refusal (inl needed) = inl needed
needed_or_fault refusal (inr fault) = inr (inr fault)

-- a retirement takes no memory
one_memory : (refusal : Refusal) → (refusal ≡ StillNeeded) ⊎ (refusal ≡ Fault) → refusal ≡ NoMemory → ⊥
one_memory refusal (inl is) memory = let same : StillNeeded ≡ NoMemory = sym is ∙ memory in cc
one_memory refusal (inr is) memory = let same : Fault ≡ NoMemory = sym is ∙ memory in cc

module _ {D : Type 0} {disk : Ghosts D} where
  -- nothing was done
  pub keeps_others_none : (store : Store D disk) → KeepsOthers store store
  keeps_others_none store = record { jobs = λ is_open slot segment oldest. spared_same segment store store refl; no_more = omega arith }

  pub costs_none : (more : ℕ) (store : Store D disk) → CostsAtMost more store store
  costs_none more store = record { by_segment = λ slot segment oldest. omega arith; by_marks = omega arith }

  pub unfreed_none : (refusal : Refusal) (store : Store D disk) → (refusal ≡ StillNeeded) ⊎ (refusal ≡ Fault) → (refusal ≡ StillNeeded → HasFew store) → IsUnfreed refusal store store
  unfreed_none refusal store only few = record {
    only = needed_or_fault refusal only;
    ring = refl;
    marks = refl;
    needed = λ is is_open. (few is, record { device = refl; shape = refl; ring = refl; cells = refl; marks = refl; jobs = refl; state = refl; failed = refl });
    half = λ memory. absurd (one_memory refusal only memory);
  }

  -- a call that makes few calls of the device, and leaves the kept jobs, and others then
  pub keeps_others_same : (old new : Store D disk) → kept_jobs new ≡ kept_jobs old → KeepsOthers old new
  keeps_others_same old new same = record {
    jobs = λ is_open slot segment oldest. spared_same segment old new same;
    no_more = omega (arith, ap (λ (l : List Job). length l) same);
  }

  pub costs_few : (more : ℕ) (old new : Store D disk) → length (disk.past (device_of new)) ≤ length (disk.past (device_of old)) + more → CostsAtMost more old new
  costs_few more old new few = record { by_segment = λ slot segment oldest. omega (arith, few); by_marks = omega (arith, few) }

  pub costs_more : (few more : ℕ) (old new : Store D disk) → few ≤ more → CostsAtMost few old new → CostsAtMost more old new
  costs_more few more old new less costs = record {
    by_segment = λ slot segment oldest. omega (arith, less, costs.by_segment slot segment oldest);
    by_marks = omega (arith, less, costs.by_marks);
  }

  pub costs_on : (more few : ℕ) (old mid new : Store D disk) → CostsAtMost more old mid → length (disk.past (device_of new)) ≤ length (disk.past (device_of mid)) + few
      → CostsAtMost (more + few) old new
  costs_on more few old mid new first behind = record {
    by_segment = λ slot segment oldest. omega (arith, first.by_segment slot segment oldest, behind);
    by_marks = omega (arith, first.by_marks, behind);
  }

-- a commit doesn't tell that a segment is needed, nor does freeing tell that there is no room
abbrev pub OfCommit : Refusal → Type 0
OfCommit e = (e ≡ JournalFull) ⊎ ((e ≡ Stranger) ⊎ ((e ≡ NoMemory) ⊎ (e ≡ Fault)))

pub no_needed : (refusal : Refusal) → OfCommit refusal → refusal ≡ StillNeeded → ⊥
no_needed refusal (inl is) needed = let same : JournalFull ≡ StillNeeded = sym is ∙ needed in cc
no_needed refusal (inr (inl is)) needed = let same : Stranger ≡ StillNeeded = sym is ∙ needed in cc
no_needed refusal (inr (inr (inl is))) needed = let same : NoMemory ≡ StillNeeded = sym is ∙ needed in cc
no_needed refusal (inr (inr (inr is))) needed = let same : Fault ≡ StillNeeded = sym is ∙ needed in cc

-- nor does a retirement take memory
pub no_memory : {A : Type 0} (result : Result A Refusal) → IfErr result (λ e. (e ≡ StillNeeded) ⊎ (e ≡ Fault)) → IsErrOf result NoMemory → ⊥
no_memory (Ok answer) only told = ok≢err answer NoMemory told
no_memory {A} (Err refusal) only told = one_memory refusal only (ap (refusal_or {T = A} NoMemory) told)

pub not_full : (refusal : Refusal) → (refusal ≡ StillNeeded) ⊎ ((refusal ≡ NoMemory) ⊎ (refusal ≡ Fault)) → refusal ≡ JournalFull → ⊥
not_full refusal (inl is) full = let same : StillNeeded ≡ JournalFull = sym is ∙ full in cc
not_full refusal (inr (inl is)) full = let same : NoMemory ≡ JournalFull = sym is ∙ full in cc
not_full refusal (inr (inr is)) full = let same : Fault ≡ JournalFull = sym is ∙ full in cc

pub no_stranger_freed : (refusal : Refusal) → (refusal ≡ StillNeeded) ⊎ ((refusal ≡ NoMemory) ⊎ (refusal ≡ Fault)) → refusal ≡ Stranger → ⊥
no_stranger_freed refusal (inl is) stranger = let same : StillNeeded ≡ Stranger = sym is ∙ stranger in cc
no_stranger_freed refusal (inr (inl is)) stranger = let same : NoMemory ≡ Stranger = sym is ∙ stranger in cc
no_stranger_freed refusal (inr (inr is)) stranger = let same : Fault ≡ Stranger = sym is ∙ stranger in cc

-- what each of them tells, a commit that makes room may tell
pub of_commit : (refusal : Refusal) → OfCommit refusal → ((refusal ≡ JournalFull) ⊎ ((refusal ≡ StillNeeded) ⊎ (refusal ≡ Stranger))) ⊎ ((refusal ≡ NoMemory) ⊎ (refusal ≡ Fault))
of_commit refusal (inl full) = inl (inl full)
of_commit refusal (inr (inl stranger)) = inl (inr (inr stranger))
of_commit refusal (inr (inr other)) = inr other

pub of_freeing : (refusal : Refusal) → (refusal ≡ StillNeeded) ⊎ ((refusal ≡ NoMemory) ⊎ (refusal ≡ Fault))
    → ((refusal ≡ JournalFull) ⊎ ((refusal ≡ StillNeeded) ⊎ (refusal ≡ Stranger))) ⊎ ((refusal ≡ NoMemory) ⊎ (refusal ≡ Fault))
of_freeing refusal (inl needed) = inl (inr (inl needed))
of_freeing refusal (inr other) = inr other
