-- Why a conversation ends.
use Rattle.std.specs.Prelude.{◌≡◌, ◌≤◌, ◌==◌, ◌&&◌, ℕ, zero, suc, Bool, true, false, List, [], ◌∷◌}
use Rattle.sockets.specs.declared.parting.Parting.{Parting}
use Rattle.sockets.specs.declared.parting.Parting.TheVariants.{Ended, ReadFailed, WriteFailed, Slow, Idle, Over, NoMemory}
use Rattle.sockets.specs.Socket as socket
use Rattle.sockets.specs.Socket.{Event, waits_of}

-- Between two turns, after these reads: the peer sends nothing more, a read failed, the peer was idle for a second or longer, or the hall of
-- this name had ended.
abbrev pub EndsBetween : ℕ → Parting → List Event → Type 0
EndsBetween hall Ended reads = (before : List Event) × (reads ≡ socket.InputEnded ∷ before)
EndsBetween hall ReadFailed reads = (before : List Event) × (reads ≡ socket.ReadFailed ∷ before)
EndsBetween hall Idle reads = 10 ≤ waits_of reads
EndsBetween hall (Over token) reads = token.of ≡ hall
EndsBetween hall NoMemory reads = reads ≡ []
EndsBetween hall WriteFailed reads = ⊥
EndsBetween hall Slow reads = ⊥

-- the connection was shut down among these calls
abbrev pub was_closed : List Event → Bool
was_closed [] = false
was_closed (socket.Closed ∷ events) = true
was_closed (event ∷ events) = was_closed events

-- the newest call was a write that failed
abbrev pub newest_failed : List Event → Bool
newest_failed [] = false
newest_failed (socket.WriteFailed ∷ events) = true
newest_failed (event ∷ events) = false

-- so many of the newest calls were writes that took no byte in their time
abbrev pub newest_waited : ℕ → List Event → Bool
newest_waited zero events = true
newest_waited (suc count) (socket.WriteWaited ∷ events) = newest_waited count events
newest_waited (suc count) events = false

-- In a turn, after these writes: the newest failed, or the 50 newest took no byte in their time, or the newest took none and the hall of this
-- name had ended.
abbrev pub ends_in_write : ℕ → Parting → List Event → Bool
ends_in_write hall WriteFailed writes = newest_failed writes
ends_in_write hall Slow writes = newest_waited 50 writes
ends_in_write hall (Over token) writes = (token.of == hall) && newest_waited 1 writes
ends_in_write hall Ended writes = false
ends_in_write hall ReadFailed writes = false
ends_in_write hall Idle writes = false
ends_in_write hall NoMemory writes = false
