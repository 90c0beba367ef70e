-- What reading a device tells, and why it is refused.
use Rattle.std.specs.Prelude.{◌≡◌, ◌+◌, ◌≤◌, ℕ, true, List, [], ◌∷◌, length, Result, IfErr}
use Rattle.refusal.specs.Refusal.{IsOneOf}
use Rattle.refusal.specs.declared.Refusal.{Refusal}
use Rattle.refusal.specs.declared.Refusal.TheVariants.{NotFormatted, OldFormat, Damaged, NoMemory, Fault}
use Rattle.revision.specs.State.{State}
use Rattle.history.specs.declared.pick.Pick.{Pick}
use Rattle.milestone.specs.declared.format.Format.{Format}
use Rattle.segments.specs.Ring.{size_of, end_of}
use Rattle.recovery.specs.declared.reading.RecoveredStore.{RecoveredStore}
use Rattle.recovery.specs.Shape.{is_in_range, layout_length}
use Rattle.recovery.specs.Layout.{IsFormatted, IsOldFormat}
use Rattle.recovery.specs.Cells.{AreCellsOf}
use Rattle.recovery.specs.Found.{Found, FoundIn, limits_in}

-- What was read is of its shape, which is in range, and lies within so many bytes, whatever the device gave.
pub record IsOfItsShape (format : Format) (device_len : ℕ) (recovered : RecoveredStore) : Type 0 where
  pub cells : AreCellsOf recovered.shape recovered.cells.items
  pub limits : recovered.state.limits ≡ limits_in format recovered.shape
  pub in_range : is_in_range recovered.shape ≡ true
  pub long : layout_length recovered.shape ≤ device_len
  pub slot : size_of recovered.ring ≡ recovered.state.limits.width + 19
  pub within : end_of recovered.ring ≤ device_len

-- Why what stands in a format isn't read from a content by a pick, where the device has kept its word.
pub record IsUnreadIn {A : Type 0} (format : Format) (honest : Type 0) (content : List ℕ) (pick : Pick) (result : Result A Refusal) : Type 0 where
  pub not_formatted : IfErr result (λ e. e ≡ NotFormatted → honest → ¬ IsFormatted content)
  pub formatted : IfErr result (λ e. e ≡ Damaged → honest → IsFormatted content)
  pub damaged : IfErr result (λ e. e ≡ Damaged → honest → (found : State) → ¬ FoundIn format content pick found)
  pub only : IfErr result (λ e. IsOneOf e (NotFormatted ∷ Damaged ∷ NoMemory ∷ Fault ∷ []))

-- Why a content of the second format isn't read by a pick, where the device has kept its word.
pub record IsUnread {A : Type 0} (honest : Type 0) (content : List ℕ) (pick : Pick) (result : Result A Refusal) : Type 0 where
  pub not_formatted : IfErr result (λ e. e ≡ NotFormatted → honest → ¬ IsFormatted content)
  pub old_format : IfErr result (λ e. e ≡ OldFormat → honest → IsOldFormat content)
  pub new_format : IfErr result (λ e. e ≡ Damaged → honest → ¬ IsOldFormat content)
  pub formatted : IfErr result (λ e. e ≡ Damaged → honest → IsFormatted content)
  pub damaged : IfErr result (λ e. e ≡ Damaged → honest → (found : State) → ¬ Found content pick found)
  pub only : IfErr result (λ e. IsOneOf e (NotFormatted ∷ OldFormat ∷ Damaged ∷ NoMemory ∷ Fault ∷ []))
