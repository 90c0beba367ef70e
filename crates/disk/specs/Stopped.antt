-- What a device that fails by plan stands on, and what a stop leaves of it.
use Rattle.std.specs.Prelude.{List, ℕ, Bool, reverse}
use Rattle.disk.specs.Memory.{bytes_of, calls_of}
use Rattle.disk.specs.Left.{left_after}
use Rattle.disk.specs.declared.memory.MemDisk.{MemDisk}
use Rattle.disk.specs.declared.faults.FaultDisk.{FaultDisk}
use Rattle.disk.specs.declared.faults.FaultPlan.{FaultPlan}

-- the device below
abbrev pub disk_of : FaultDisk → MemDisk
disk_of faulty = faulty.disk

-- where it goes wrong, how many calls it was asked for, and whether it has stopped
abbrev pub fault_plan_of : FaultDisk → FaultPlan
fault_plan_of faulty = faulty.plan

abbrev pub asked_of : FaultDisk → ℕ
asked_of faulty = faulty.asked

abbrev pub has_stopped : FaultDisk → Bool
has_stopped faulty = faulty.has_stopped

-- the bytes that its plan leaves after a stop
abbrev pub bytes_left : FaultDisk → List ℕ
bytes_left faulty = left_after faulty.plan.left (reverse (calls_of faulty.disk)) (bytes_of faulty.disk)
