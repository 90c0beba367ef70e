-- What every run of device calls keeps, whatever it reads or writes.
use Rattle.std.specs.Prelude.{◌≡◌, ◌≢◌, ◌↔◌, length, Result, OnOk, OnErr, IfErr, IsErrOf}
use Rattle.disk.specs.declared.device.Disk.{Ghosts}
use Rattle.disk.specs.Device.{Rose}
use Rattle.disk.specs.Crash.{history_of}

module _ {D : Type 0} (disk : Ghosts D) where
  -- Calls that only read: the history is the same, and a device that has kept its word afterwards had kept it before.
  pub record HasOnlyRead (old new : D) : Type 0 where
    pub history : history_of disk new ≡ history_of disk old
    pub honest : disk.honest new → disk.honest old

  -- Calls that write or sync: the length is the same, and the device has kept its word if it had before.
  pub record HasOnlyWritten (old new : D) : Type 0 where
    pub length : length (disk.seen new) ≡ length (disk.seen old)
    pub honest : disk.honest new ↔ disk.honest old

  -- The count of failed calls stays at Ok, and rises at Err, where no other error than the device's fault is answered.
  pub record CountsFaults {A E : Type 0} (result : Result A E) (old new : D) : Type 0 where
    pub good : OnOk result (disk.faults new ≡ disk.faults old)
    pub failed : OnErr result (Rose (disk.faults old) (disk.faults new))

  -- The count of failed calls rises where the answer is this error, which tells the device's fault, and stays at Ok and at each other
  -- error: no failed call is told as another error.
  pub record CountsFaultsAs {A E : Type 0} (fault : E) (result : Result A E) (old new : D) : Type 0 where
    pub good : OnOk result (disk.faults new ≡ disk.faults old)
    pub others : IfErr result (λ e. e ≢ fault → disk.faults new ≡ disk.faults old)
    pub failed : IsErrOf result fault → Rose (disk.faults old) (disk.faults new)
