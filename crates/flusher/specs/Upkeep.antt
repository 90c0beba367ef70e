-- What the calls for milestones and segments keep.
use Rattle.std.specs.Prelude.{◌≡◌}
use Rattle.disk.specs.declared.device.Disk.{Ghosts}
use Rattle.recovery.specs.declared.store.Store.{Store}
use Rattle.recovery.specs.Found.{FoundAs}
use Rattle.recovery.specs.Goes.{Goes}
use Rattle.recovery.specs.Open.{state_of}
use Rattle.flusher.specs.declared.flusher.Flusher.{Flusher}
use Rattle.flusher.specs.Holding.{KeepsBatches, store_of}

module _ {D : Type 0} {disk : Ghosts D} where
  -- Milestones were put and segments retired, and nothing else: the state is unchanged, and a crash at any moment leaves it.
  pub record IsKeptUp (old new : Store D disk) : Type 0 where
    pub goes : Goes (λ content. FoundAs content (state_of old)) old new
    pub state : state_of new ≡ state_of old

module _ {D L : Type 0} {disk : Ghosts D} where
  -- A flusher's store was kept up, and nothing else: what is published, committed and held stays.
  pub record KeepsUp (old new : Flusher D L disk) : Type 0 where
    pub kept_up : IsKeptUp (store_of old) (store_of new)
    pub batches : KeepsBatches old new
