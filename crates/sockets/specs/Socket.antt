-- What a listener and its connections were asked, and what came of it.
use Rattle.std.specs.Prelude.{◌≡◌, ℕ, ◌+◌, true, List, [], ◌∷◌, ◌++◌, take}
use Rattle.serving.specs.Turns.{InputPiece}
use Rattle.sockets.specs.declared.raw.Got.{Got}
use Rattle.sockets.specs.declared.raw.Got.TheVariants as got
use Rattle.sockets.specs.declared.raw.Put.{Put}
use Rattle.sockets.specs.declared.raw.Put.TheVariants as put

-- a call of the system, with what came of it
pub data Event : Type 0 where
  -- of a listener: a connection came, or taking one failed
  Came : Event
  AcceptFailed : Event
  -- a read brought these bytes, or none in its time; or it told that none come any more; or it failed
  Read : (bytes : List ℕ) → Event
  ReadWaited : Event
  InputEnded : Event
  ReadFailed : Event
  -- a write took these bytes, or none in its time; or it failed
  Wrote : (bytes : List ℕ) → Event
  WriteWaited : Event
  WriteFailed : Event
  -- the connection was shut down
  Closed : Event

-- the event of a read into this piece, and of a write of these bytes
abbrev pub event_of_read : Got → List ℕ → Event
event_of_read (got.Bytes count) piece = Read (take count piece)
event_of_read got.Nothing piece = ReadWaited
event_of_read got.End piece = InputEnded
event_of_read got.Failed piece = ReadFailed

abbrev pub event_of_write : Put → List ℕ → Event
event_of_write (put.Bytes count) bytes = Wrote (take count bytes)
event_of_write put.Nothing bytes = WriteWaited
event_of_write put.Failed bytes = WriteFailed

-- The pieces of the input, oldest first: what each read brought, no byte where it waited in vain. The input is cut behind each.
abbrev pub pieces_of : List Event → List InputPiece
pieces_of [] = []
pieces_of (Read bytes ∷ events) = pieces_of events ++ record { bytes = bytes; is_cut = true } ∷ []
pieces_of (ReadWaited ∷ events) = pieces_of events ++ record { bytes = []; is_cut = true } ∷ []
pieces_of (event ∷ events) = pieces_of events

-- how many reads waited in vain
abbrev pub waits_of : List Event → ℕ
waits_of [] = 0
waits_of (ReadWaited ∷ events) = waits_of events + 1
waits_of (event ∷ events) = waits_of events

-- the bytes that were written, in order
abbrev pub bytes_of : List Event → List ℕ
bytes_of [] = []
bytes_of (Wrote bytes ∷ events) = bytes_of events ++ bytes
bytes_of (event ∷ events) = bytes_of events

-- how many connections came
abbrev pub came : List Event → ℕ
came [] = 0
came (Came ∷ events) = came events + 1
came (event ∷ events) = came events

-- the newest of these calls of a listener failed to take a connection
abbrev pub HasFailed : List Event → Type 0
HasFailed events = (before : List Event) × (events ≡ AcceptFailed ∷ before)

-- Behind these calls of a listener there were others, and the newest of them failed to take a connection.
abbrev pub HasFailedSince : List Event → List Event → Type 0
HasFailedSince old new = (since : List Event) × (new ≡ AcceptFailed ∷ (since ++ old))
