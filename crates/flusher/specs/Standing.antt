-- A board, a flusher and its store at one moment of a thread's run.
use Rattle.std.specs.Prelude.{◌≡◌, ◌≤◌, ℕ, false, List, [], ◌++◌, length}
use Rattle.disk.specs.declared.device.Disk.{Ghosts}
use Rattle.revision.specs.Command.{Taken}
use Rattle.revision.specs.State.{State, fold}
use Rattle.world.specs.Progress.{Progress, begun_progress}
use Rattle.world.specs.World.{Entry, takens}
use Rattle.recovery.specs.declared.store.Store.{Store}
use Rattle.recovery.specs.Found.{commands_of}
use Rattle.recovery.specs.Open.{state_of}
use Rattle.hub.specs.Legal.{Board as HubBoard}
use Rattle.flusher.specs.declared.flusher.Flusher.{Flusher}
use Rattle.flusher.specs.Batches.{AreParts}
use Rattle.flusher.specs.Holding.{store_of, told_of, committed_of, waiting_of, opened_of}

-- What the board has, and the batches that it was told of; the batches that were published; the batch that is committed and not
-- published yet, and the one that isn't committed yet, each a list of one batch or of none; and the store.
pub record Standing (D : Type 0) (disk : Ghosts D) : Type 0 where
  pub board : Progress Entry
  pub known : List (List Taken)
  pub told : List (List Taken)
  pub committed : List (List Taken)
  pub waiting : List (List Taken)
  pub store : Store D disk

module _ {D : Type 0} {disk : Ghosts D} where
  -- the board's counts lie in its order, and its order as far as it is taken off is the batches that were taken off so far
  pub record IsEven (here : Standing D disk) : Type 0 where
    pub settled : here.board.settled ≤ here.board.taken
    pub taken : here.board.taken ≤ length here.board.order
    pub parts : AreParts (takens here.board.order) here.board.settled here.board.taken here.told (here.committed ++ here.waiting)

  -- nothing is under way: what was taken off is published, the board was told of it, and the store holds the state after it
  pub record IsCalm (start : State) (here : Standing D disk) : Type 0 where
    pub even : IsEven here
    pub known : here.known ≡ here.told
    pub committed : here.committed ≡ []
    pub waiting : here.waiting ≡ []
    pub state : state_of here.store ≡ fold start (commands_of here.told)

module _ {D L : Type 0} {disk : Ghosts D} where
  abbrev pub standing : HubBoard → Flusher D L disk → Standing D disk
  standing board flusher = record {
    board = board.progress;
    known = board.told;
    told = told_of flusher;
    committed = committed_of flusher;
    waiting = waiting_of flusher;
    store = store_of flusher;
  }

  -- A flusher has begun over a store, and its board, which has so many seats to give: nothing is ordered since the start, and nothing is under
  -- way.
  pub record HaveBegun (start : State) (store : Store D disk) (seats : ℕ) (flusher : Flusher D L disk) (board : HubBoard) : Type 0 where
    pub over : store_of flusher ≡ store
    pub opened : opened_of flusher ≡ store_of flusher
    pub fresh : board ≡ record { progress = begun_progress start; failed = false; told = []; left = seats }
    pub told : told_of flusher ≡ []
    pub calm : IsCalm start (standing board flusher)
