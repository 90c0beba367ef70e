-- What may happen to a server: the steps of its board, of the device under it and of its view, and crashes.
use Rattle.std.specs.Prelude.{ℕ, List}
use Rattle.revision.specs.Command.{Command}

-- how the writing of a batch ends
pub data Outcome : Type 0 where
  -- all its device calls were good
  Done : Outcome
  -- one of them failed
  Failed : Outcome
  -- it was given up between two of them
  Stopped : Outcome

pub data Event : Type 0 where
  -- a source sends a command
  Submit : Command → Event
  -- the next commands, so many, are taken off to be written in one batch
  Take : ℕ → Event
  -- the writing of the batch ends
  Device : Outcome → Event
  -- the batch is shown
  Publish : Event
  -- the batch is settled
  Settle : Event
  -- the ticket of this place is acknowledged
  Ack : ℕ → Event
  -- the document of this number is composed at this revision, and kept so on the device
  Compose : ℕ → ℕ → Event
  -- the machine stops, and the device keeps so many commands of the order
  Crash : ℕ → Event
  -- the store is opened with so many commands of the order, and each document with its floor
  Open : ℕ → List ℕ → Event
  -- a source sends its last command to a document again
  Resend : Command → Event
