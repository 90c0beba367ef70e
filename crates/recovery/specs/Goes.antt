-- What calls of a store keep, one or many, whatever they answered.
use Rattle.std.specs.Prelude.{◌≡◌, ℕ, true, false, List}
use Rattle.disk.specs.declared.device.Disk.{Ghosts}
use Rattle.disk.specs.Crash.{LeavesOnly}
use Rattle.recovery.specs.declared.store.Store.{Store}
use Rattle.recovery.specs.Open.{IsOpen, device_of, has_failed}

module _ {D : Type 0} {disk : Ghosts D} where
  -- Some calls led from the old store to the new one. A crash at any moment of them leaves a content that has P, where the old store was
  -- open and had not failed. Where the new one hasn't failed, it is open. A store that had failed is not written any more, and
  -- has failed afterwards too.
  pub record Goes (P : List ℕ → Type 0) (old new : Store D disk) : Type 0 where
    pub any_moment : has_failed old ≡ false → IsOpen old → LeavesOnly disk P (device_of old) (device_of new)
    pub opens : has_failed new ≡ false → IsOpen old → IsOpen new
    pub stays : has_failed old ≡ true → (device_of new ≡ device_of old) × (has_failed new ≡ true)
