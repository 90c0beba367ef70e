-- What a device in memory shows.
use Rattle.std.specs.Prelude.{ℕ, List}
use Rattle.disk.specs.declared.memory.MemDisk.{MemDisk}
use Rattle.disk.specs.declared.memory.Call.{Call}

-- what a read gives
abbrev pub bytes_of : MemDisk → List ℕ
bytes_of disk = disk.bytes.items

-- the calls that succeeded, oldest first
abbrev pub calls_of : MemDisk → List Call
calls_of disk = disk.calls.items

-- how many failed
abbrev pub failures_of : MemDisk → ℕ
failures_of disk = disk.failures
