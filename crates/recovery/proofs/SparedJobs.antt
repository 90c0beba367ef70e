-- The kept jobs of documents that have no entry in a segment, while it is freed.
use Rattle.std.proofs.Common.{◌≡◌, ℕ, List, ◌∙◌, ap, subst}
use Rattle.disk.specs.declared.device.Disk.{Ghosts}
use Rattle.milestone.specs.Job.{Job}
use Rattle.recovery.specs.declared.store.Store.{Store}
use Rattle.segments.specs.Numbers.{IsOldest}
use Rattle.segments.specs.Ring.{known_numbers}
use Rattle.recovery.specs.Jobs.{jobs_for}
use Rattle.recovery.specs.Open.{KeepsJobs, ring_of, kept_jobs}
use Rattle.recovery.proofs.Marked.{one_oldest}

module _ {D : Type 0} {disk : Ghosts D} where
  -- nothing but other things changed
  pub spared_same : (segment : ℕ) (old new : Store D disk) → kept_jobs new ≡ kept_jobs old → KeepsJobs segment old new
  spared_same segment old new same document spared = ap (λ (l : List Job). jobs_for document l) same

  pub spared_then : (segment : ℕ) (old mid new : Store D disk) → KeepsJobs segment old mid → kept_jobs new ≡ kept_jobs mid → KeepsJobs segment old new
  spared_then segment old mid new keeps same document spared = ap (λ (l : List Job). jobs_for document l) same ∙ keeps document spared

  -- one segment is the oldest
  pub spared_oldest : (old new : Store D disk) (slot segment other number : ℕ) → IsOldest (known_numbers (ring_of old)) slot segment
      → IsOldest (known_numbers (ring_of old)) other number → KeepsJobs segment old new → KeepsJobs number old new
  spared_oldest old new slot segment other number first second keeps =
      subst (λ n. KeepsJobs n old new) (one_oldest (known_numbers (ring_of old)) slot other segment number first second) keeps
