-- What comes of the thread that writes.
use Rattle.std.specs.Prelude.{◌≡◌, Result}
use Rattle.disk.specs.declared.device.Disk.{Ghosts}
use Rattle.refusal.specs.declared.Refusal.{Refusal}
use Rattle.revision.specs.State.{State}
use Rattle.recovery.specs.declared.store.Store.{Store}
use Rattle.flusher.specs.declared.flusher.Flusher.{Flusher}
use Rattle.flusher.specs.Holding.{store_of}
use Rattle.turns.specs.Turning.{HasWritten}
use Rattle.server_threads.specs.Served.{IsStarted}

module _ {D L : Type 0} {disk : Ghosts D} where
  -- what comes of any flusher that was just started over this store
  abbrev pub StartedOverWrites : State → Store D disk → Flusher D L disk → Result (Unit {0}) Refusal → Type 0
  StartedOverWrites start store new answer = (old : Flusher D L disk) → IsStarted old → store_of old ≡ store → HasWritten start old new answer

  -- a flusher that was just started over this store
  pub record IsStartedOver (store : Store D disk) (flusher : Flusher D L disk) : Type 0 where
    pub started : IsStarted flusher
    pub over : store_of flusher ≡ store
