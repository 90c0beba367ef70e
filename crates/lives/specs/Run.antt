-- How a thread's run continues from one moment to another, and which commands of the order a content represents.
use Rattle.std.specs.Prelude.{◌≡◌, ◌≤◌, ℕ, false, List, ◌++◌, length, take}
use Rattle.disk.specs.declared.device.Disk.{Ghosts}
use Rattle.disk.specs.Crash.{MayLeaveNow}
use Rattle.revision.specs.Command.{Taken}
use Rattle.revision.specs.State.{State, fold}
use Rattle.recovery.specs.Found.{commands_of, FoundAs}
use Rattle.recovery.specs.Open.{IsOpen, device_of, has_failed}
use Rattle.recovery.specs.Goes.{Goes}
use Rattle.flusher.specs.Batches.{IsBeginning}
use Rattle.flusher.specs.Standing.{Standing, IsEven}

-- The content represents a state that agrees with the one after the first commands of the order, so many of them at least, and where
-- these end a batch ends.
pub record IsFirst (least : ℕ) (start : State) (order : List Taken) (batches : List (List Taken)) (content : List ℕ) : Type 0 where
  pub count : ℕ
  pub enough : least ≤ count
  pub within : count ≤ length order
  pub first : List (List Taken)
  pub more : List (List Taken)
  pub whole : first ++ more ≡ batches
  pub ends : commands_of first ≡ take count order
  pub found : FoundAs content (fold start (take count order))

module _ {D : Type 0} {disk : Ghosts D} where
  -- all batches that were taken off so far, in order
  abbrev pub batches_of : Standing D disk → List (List Taken)
  batches_of here = here.told ++ (here.committed ++ here.waiting)

  -- From one moment to a later one: a crash at any moment between leaves some first batches of those that are there at the end, and
  -- no fewer commands than were settled at the beginning; and a crash at the end no fewer than are settled then.
  pub record RunGoes (start : State) (old new : Standing D disk) : Type 0 where
    pub even : IsEven new
    pub settled : old.board.settled ≤ new.board.settled
    pub more : (l : List (List Taken)) × (batches_of new ≡ old.told ++ l)
    pub goes : Goes (IsBeginning old.board.settled start (batches_of new)) old.store new.store
    pub lasts : has_failed old.store ≡ false → IsOpen old.store
        → (content : List ℕ) → MayLeaveNow disk (device_of new.store) content → IsBeginning new.board.settled start (batches_of new) content
