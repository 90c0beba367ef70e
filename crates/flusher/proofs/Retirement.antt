-- What a store says of a retirement, as the call of a flusher says it.
use Rattle.std.proofs.Common.{◌≡◌, ◌≢◌, ◌⊎◌, inl, inr, Bool, false, true, refl, ap}
use Rattle.std.specs.Prelude.{Result, Ok, Err, OnOk, IfErr, IsErrOf}
use Rattle.disk.specs.declared.device.Disk.{Ghosts}
use Rattle.refusal.specs.declared.Refusal.{Refusal}
use Rattle.refusal.specs.declared.Refusal.TheVariants.{StillNeeded, Fault}
use Rattle.recovery.specs.declared.store.Store.{Store}
use Rattle.recovery.specs.declared.run.StoreStep.TheVariants.{Retire}
use Rattle.recovery.specs.Faults.{FailsAtFaults}
use Rattle.recovery.specs.Open.{IsUnchanged, has_failed}
use Rattle.recovery.specs.Retiring.{IsRefusedWhereNeeded, IsRetiredFrom, IsUnretired}
use Rattle.recovery.specs.Run.{IsTaken, IsWhy}
use Rattle.flusher.proofs.Holdings.{told_of_error}

module _ {D : Type 0} {disk : Ghosts D} (old new : Store D disk) where
  -- what a retirement leaves, and why it was refused
  pub retired_taken : {T : Type 0} (result : Result T Refusal) → OnOk result (IsRetiredFrom old new) → OnOk result (IsTaken Retire old new)
  retired_taken (Ok value) done = done.taken
  retired_taken (Err refusal) done = tt

  pub why_of_retirement : {T : Type 0} (result : Result T Refusal) → FailsAtFaults result old new → IsRefusedWhereNeeded result old → IfErr result (λ e. e ≢ Fault → IsWhy Retire e old)
  why_of_retirement (Ok value) faults needed = tt
  why_of_retirement {T} (Err refusal) faults needed = by_case needed.only
    where
      works : refusal ≢ Fault → (b : Bool) → has_failed old ≡ b → has_failed old ≡ false
      works other true failed = absurd (other (told_of_error {T = T} refusal Fault (faults.failed_before failed).0))
      works other false unfailed = unfailed

      by_case : (refusal ≡ StillNeeded) ⊎ (refusal ≡ Fault) → refusal ≢ Fault → IsWhy Retire refusal old
      by_case (inl is) other = (is, λ is_open. (needed.exact (works other (has_failed old) refl) is_open).0 (ap (λ (e : Refusal). Err e) is))
      by_case (inr is) other = absurd (other is)

  pub unretired : {T : Type 0} (result : Result T Refusal) → IfErr result (λ e. IsUnretired e old new) → IsErrOf result StillNeeded → IsUnchanged old new
  unretired (Ok value) left told = let none : ⊥ = cc in absurd none
  unretired {T} (Err refusal) left told = left.untouched (told_of_error {T = T} refusal StillNeeded told)
