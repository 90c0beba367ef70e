-- The pieces of a connection as callers see them.
use Rattle.std.specs.Prelude.{◌≡◌, ◌≤◌, ◌<◌, ◌+◌, ◌++◌, ℕ, zero, suc, List, [], ◌∷◌, Option, Some, None, take}
use Rattle.serving.specs.Turns.{InputPiece}
use Rattle.sockets.specs.declared.parting.Parting.{Parting}
use Rattle.sockets.specs.declared.raw.HostReader.{HostReader}
use Rattle.sockets.specs.declared.reads.ReadPieces.{ReadPieces}
use Rattle.sockets.specs.Socket.{pieces_of, waits_of}
use Rattle.sockets.specs.Host.{number_read, reads_of}
use Rattle.sockets.specs.Ends.{EndsBetween}

-- what the newest read brought
abbrev pub brought : Option ℕ → List ℕ → List ℕ
brought None bytes = []
brought (Some count) bytes = take count bytes

abbrev pub newest_of : ReadPieces → List ℕ
newest_of pieces = brought pieces.count pieces.bytes

-- how many waits aren't noted yet: one where the newest read brought no byte
abbrev pub not_noted : Option ℕ → ℕ
not_noted (Some zero) = 1
not_noted (Some (suc count)) = 0
not_noted None = 0

-- the name of the end of its hall
abbrev pub hall_of : ReadPieces → ℕ
hall_of pieces = pieces.hall.now.ended.id

-- The peer was idle for no more than the reads that waited, and a limit is a second or longer.
abbrev pub IsPatient : ReadPieces → HostReader → Type 0
IsPatient pieces reader =
    (pieces.patience.waited + not_noted pieces.count ≤ waits_of (reads_of reader)) × (0 < pieces.patience.limit → 10 ≤ pieces.patience.limit)

-- This piece was read of a connection, and it was patient with its peer.
pub record GivesRead (pieces : ReadPieces) (reader : HostReader) (piece : InputPiece) (pieces' : ReadPieces) (reader' : HostReader) : Type 0 where
  pub read : pieces_of (reads_of reader') ≡ pieces_of (reads_of reader) ++ piece ∷ []
  pub same : number_read reader' ≡ number_read reader
  pub hall : hall_of pieces' ≡ hall_of pieces
  pub patient : IsPatient pieces reader → IsPatient pieces' reader'

-- No piece was read, and none will be, for this cause.
pub record EndsReads (pieces : ReadPieces) (reader : HostReader) (why : Parting) (reader' : HostReader) : Type 0 where
  pub none : pieces_of (reads_of reader') ≡ pieces_of (reads_of reader)
  pub same : number_read reader' ≡ number_read reader
  pub ends : IsPatient pieces reader → EndsBetween (hall_of pieces) why (reads_of reader')
