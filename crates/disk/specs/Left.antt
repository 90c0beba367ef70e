-- What a call that fails, or a stop, leaves of the ranges that are not synced.
use Rattle.std.specs.Prelude.{ℕ, ◌+◌, ◌/◌, List, [], ◌∷◌, ◌++◌, length, take, drop, replicate, slice_range}
use Rattle.disk.specs.Device.{overwritten}
use Rattle.disk.specs.declared.memory.Call.{Call}
use Rattle.disk.specs.declared.memory.Call.TheVariants.{Read, Write, Sync}
use Rattle.disk.specs.declared.faults.Left.{Left}
use Rattle.disk.specs.declared.faults.Left.TheVariants.{Nothing, All, FirstHalf, Byte}

-- the bytes of a range where these were to replace those
abbrev pub left_bytes : Left → List ℕ → List ℕ → List ℕ
left_bytes Nothing old new = old
left_bytes All old new = new
left_bytes FirstHalf old new = take (length new / 2) new ++ drop (length new / 2) old
left_bytes (Byte byte) old new = replicate (length new) byte

-- the bytes after a stop: each write since the last sync, newest first, left what was chosen
abbrev pub left_after : Left → List Call → List ℕ → List ℕ
left_after left [] bytes = bytes
left_after left (Read at len ∷ calls) bytes = left_after left calls bytes
left_after left (Write at replaced ∷ calls) bytes =
    let written = slice_range bytes at (at + length replaced.items) in
    left_after left calls (overwritten bytes at (left_bytes left replaced.items written))
left_after left (Sync ∷ calls) bytes = bytes
