-- What each call of a store says of the faults of its device.
use Rattle.std.specs.Prelude.{◌≡◌, ◌≢◌, ◌↔◌, true, false, Result, OnOk, IfErr, IsErrOf}
use Rattle.disk.specs.declared.device.Disk.{Ghosts}
use Rattle.disk.specs.Device.{Rose}
use Rattle.refusal.specs.declared.Refusal.{Refusal}
use Rattle.refusal.specs.declared.Refusal.TheVariants.{Fault}
use Rattle.recovery.specs.declared.store.Store.{Store}
use Rattle.recovery.specs.Open.{IsUnchanged, device_of, has_failed}

module _ {D : Type 0} {disk : Ghosts D} where
  -- A store that had failed answers `Fault`, and stays unchanged. Any other one fails where it answers `Fault`, and nowhere else: then the
  -- device's count of failed calls rises, and at Ok and at each other refusal it stays. The device has kept its word exactly when it had before.
  pub record FailsAtFaults {A : Type 0} (result : Result A Refusal) (old new : Store D disk) : Type 0 where
    pub failed_before : has_failed old ≡ true → IsErrOf result Fault × IsUnchanged old new
    pub fault : IsErrOf result Fault → has_failed old ≡ false → Rose (disk.faults (device_of old)) (disk.faults (device_of new))
    pub no_fault : IfErr result (λ e. e ≢ Fault → disk.faults (device_of new) ≡ disk.faults (device_of old))
    pub good : OnOk result (disk.faults (device_of new) ≡ disk.faults (device_of old))
    pub fails : has_failed old ≡ false → (has_failed new ≡ true ↔ IsErrOf result Fault)
    pub works : OnOk result (has_failed new ≡ false)
    pub honest : disk.honest (device_of new) ↔ disk.honest (device_of old)
