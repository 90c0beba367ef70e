-- The past of a device, read off its calls, newest first: a write kept the bytes that it replaced.
use Rattle.std.specs.Prelude.{ℕ, ◌+◌, Bool, true, nat_le, List, [], ◌∷◌, length}
use Rattle.disk.specs.Device.{State, overwritten}
use Rattle.disk.specs.declared.memory.Call.{Call}
use Rattle.disk.specs.declared.memory.Call.TheVariants.{Read, Write, Sync}

-- the ranges written since the last sync
abbrev pub unsynced_ranges : List Call → List (ℕ × ℕ)
unsynced_ranges [] = []
unsynced_ranges (Read at len ∷ calls) = unsynced_ranges calls
unsynced_ranges (Write at replaced ∷ calls) = (at, length replaced.items) ∷ unsynced_ranges calls
unsynced_ranges (Sync ∷ calls) = []

-- the states before each write and each sync, where the newest led to these bytes
abbrev pub states_before : List ℕ → List Call → List State
states_before bytes [] = []
states_before bytes (Read at len ∷ calls) = states_before bytes calls
states_before bytes (Write at replaced ∷ calls) =
    let before = overwritten bytes at replaced.items in
    record { seen = before; unsynced = unsynced_ranges calls } ∷ states_before before calls
states_before bytes (Sync ∷ calls) = record { seen = bytes; unsynced = unsynced_ranges calls } ∷ states_before bytes calls

-- a write lies within so many bytes
abbrev pub is_within : ℕ → Call → Bool
is_within size (Write at replaced) = nat_le (at + length replaced.items) size
is_within size call = true
