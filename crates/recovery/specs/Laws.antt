-- What calls of a store keep, one after another: each law is promised by a function of `laws`.
use Rattle.std.specs.Prelude.{◌≡◌, ◌≢◌, ◌↔◌, ℕ, true, false, List, Result, OnOk, IfErr, IsErrOf}
use Rattle.disk.specs.declared.device.Disk.{Ghosts}
use Rattle.disk.specs.Crash.{LeavesOnly, MayLeaveNow}
use Rattle.refusal.specs.declared.Refusal.{Refusal}
use Rattle.refusal.specs.declared.Refusal.TheVariants.{Fault}
use Rattle.recovery.specs.declared.store.Store.{Store}
use Rattle.recovery.specs.Found.{FoundAs}
use Rattle.recovery.specs.Open.{IsOpen, IsUnchanged, device_of, state_of, has_failed}
use Rattle.recovery.specs.Goes.{Goes}

module _ {D : Type 0} (disk : Ghosts D) where
  -- a store that a call left unchanged is open still
  abbrev pub OpenUnchanged : Type 0
  OpenUnchanged = (old new : Store D disk) → IsUnchanged old new → IsOpen old → IsOpen new

  -- whatever a crash now leaves under an open store is found as one that agrees with its state
  abbrev pub FoundNow : Type 0
  FoundNow = (store : Store D disk) → IsOpen store → (content : List ℕ) → MayLeaveNow disk (device_of store) content → FoundAs content (state_of store)

  -- One call that answers an A keeps its promise of contents: by what it says of its failures, of a crash at any moment, and of the store
  -- that it leaves open.
  abbrev pub OneCallGoes : (A : Type 0) → (List ℕ → Type 0) → Type 0
  OneCallGoes A P =
      (old new : Store D disk) (result : Result A Refusal)
      → (has_failed old ≡ true → IsErrOf result Fault × IsUnchanged old new)
      → (has_failed old ≡ false → (has_failed new ≡ true ↔ IsErrOf result Fault))
      → (has_failed old ≡ false → IsOpen old → LeavesOnly disk P (device_of old) (device_of new))
      → OnOk result (IsOpen old → IsOpen new)
      → IfErr result (λ e. e ≢ Fault → IsOpen old → IsOpen new)
      → Goes P old new

  -- no call keeps what the content under the store has
  abbrev pub NoCallGoes : (List ℕ → Type 0) → Type 0
  NoCallGoes P = (store : Store D disk) → (IsOpen store → P (disk.seen (device_of store))) → Goes P store store

  -- nor does a call break it that leaves the device alone
  abbrev pub CallInMemoryGoes : (List ℕ → Type 0) → Type 0
  CallInMemoryGoes P =
      (old new : Store D disk) → device_of new ≡ device_of old → has_failed new ≡ has_failed old → (IsOpen old → IsOpen new)
      → (IsOpen old → P (disk.seen (device_of old))) → Goes P old new

  -- some calls, and then others
  abbrev pub CallsGoOn : (List ℕ → Type 0) → Type 0
  CallsGoOn P = (old mid new : Store D disk) → Goes P old mid → Goes P mid new → Goes P old new

  -- calls that keep P keep each Q that follows from it
  abbrev pub GoesMap : (List ℕ → Type 0) → (List ℕ → Type 0) → Type 0
  GoesMap P Q = (old new : Store D disk) → ((content : List ℕ) → P content → Q content) → Goes P old new → Goes Q old new
