-- The moment at which a commit had ended: with the type of the device, and without it.
use Rattle.std.specs.Prelude.{◌≡◌, List, []}
use Rattle.disk.specs.Device.{History}
use Rattle.disk.specs.declared.device.Disk.{Ghosts}
use Rattle.disk.specs.Crash.{history_of}
use Rattle.revision.specs.Command.{Taken}
use Rattle.revision.specs.State.{State}

-- what a store held at a moment, and its device at that moment
pub record At (D : Type 0) : Type 0 where
  pub state : State
  pub device : D

-- a batch that was committed, and the store when the commit ended
pub record Receipt (D : Type 0) : Type 0 where
  pub batch : List Taken
  pub at : At D

-- The same without the device's type: what the store held, and what the device held and had been through. Its clock is how many states
-- are past.
pub record Moment : Type 0 where
  pub state : State
  pub device : History

-- one of no device
abbrev pub no_moment : Moment
no_moment = record {
  state = record { limits = record { docs = 0; sources = 0; weight = 0; width = 0; keep = 0; retry = 0 }; documents = [] };
  device = record { now = record { seen = []; unsynced = [] }; past = [] };
}

abbrev pub moment_of : {D : Type 0} → Ghosts D → At D → Moment
moment_of disk at = record { state = at.state; device = history_of disk at.device }

-- The store held exactly this state then, and its device was synced: a crash at that moment leaves what a read gives.
pub record IsMomentOf (state : State) (moment : Moment) : Type 0 where
  pub held : moment.state ≡ state
  pub synced : moment.device.now.unsynced ≡ []
