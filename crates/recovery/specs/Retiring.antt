-- What a retirement of the oldest segment answers, and what it leaves.
use Rattle.std.specs.Prelude.{◌≡◌, ◌↔◌, ◌≤◌, ℕ, false, [], ◌∷◌, Result, IfErr, IsErrOf, length}
use Rattle.disk.specs.declared.device.Disk.{Ghosts}
use Rattle.refusal.specs.Refusal.{IsOneOf}
use Rattle.refusal.specs.declared.Refusal.{Refusal}
use Rattle.refusal.specs.declared.Refusal.TheVariants.{StillNeeded, Fault}
use Rattle.segments.specs.Numbers.{IsOldest}
use Rattle.segments.specs.Ring.{known_numbers}
use Rattle.recovery.specs.declared.store.Store.{Store}
use Rattle.recovery.specs.declared.run.StoreStep.TheVariants.{Retire}
use Rattle.recovery.specs.Marked.{MayRetire}
use Rattle.recovery.specs.Marks.{without_segment}
use Rattle.recovery.specs.Open.{IsOpen, IsUnchanged, ring_of, state_of, known_cells, known_marks, has_failed, kept_jobs}
use Rattle.recovery.specs.Run.{IsTaken, MayGiveUp}

module _ {D : Type 0} {disk : Ghosts D} where
  -- `StillNeeded` comes exactly where something needs the oldest segment: by what is known in memory, and by an open store. Beside it
  -- `Fault` comes alone.
  pub record IsRefusedWhereNeeded {A : Type 0} (result : Result A Refusal) (old : Store D disk) : Type 0 where
    pub only : IfErr result (λ e. IsOneOf e (StillNeeded ∷ Fault ∷ []))
    pub known : has_failed old ≡ false → (IsErrOf result StillNeeded ↔ (¬ MayGiveUp old))
    pub exact : has_failed old ≡ false → (is_open : IsOpen old) → (IsErrOf result StillNeeded ↔ (¬ MayRetire is_open.table is_open.cells))

  -- The oldest segment was retired: its slot is closed, and its marks are gone.
  pub record IsRetiredFrom (old new : Store D disk) : Type 0 where
    pub taken : IsTaken Retire old new
    pub marks : (slot segment : ℕ) → IsOldest (known_numbers (ring_of old)) slot segment → known_marks new ≡ without_segment segment (known_marks old)

  -- It was not: what is known of the segments stays, and all does where something needs the oldest one.
  pub record IsUnretired (refusal : Refusal) (old new : Store D disk) : Type 0 where
    pub ring : ring_of new ≡ ring_of old
    pub marks : known_marks new ≡ known_marks old
    pub untouched : refusal ≡ StillNeeded → IsUnchanged old new

  -- The documents stay, their cells and the kept jobs, and no more is marked.
  pub record LeavesDocuments (old new : Store D disk) : Type 0 where
    pub state : state_of new ≡ state_of old
    pub cells : known_cells new ≡ known_cells old
    pub jobs : kept_jobs new ≡ kept_jobs old
    pub no_more_marks : length (known_marks new) ≤ length (known_marks old)
