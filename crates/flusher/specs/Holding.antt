-- The parts of a flusher, as contracts name them.
use Rattle.std.specs.Prelude.{◌≡◌, false, List, [], ◌∷◌, ◌++◌, option_to_list}
use Rattle.std.specs.Option.{option_map}
use Rattle.disk.specs.declared.device.Disk.{Ghosts}
use Rattle.revision.specs.Command.{Taken}
use Rattle.revision.specs.State.{State}
use Rattle.recovery.specs.declared.store.Store.{Store}
use Rattle.recovery.specs.Goes.{Goes}
use Rattle.recovery.specs.Moment.{Moment}
use Rattle.recovery.specs.Open.{has_room}
use Rattle.published.specs.Moments.{AreMoments}
use Rattle.flusher.specs.declared.flusher.Flusher.{Flusher}
use Rattle.flusher.specs.Batches.{IsBeginning}
use Rattle.flusher.specs.Lasting.{EachLasts}

module _ {D L : Type 0} {disk : Ghosts D} where
  abbrev pub store_of : Flusher D L disk → Store D disk
  store_of flusher = flusher.store

  -- the batches that were published, the oldest first
  abbrev pub told_of : Flusher D L disk → List (List Taken)
  told_of flusher = flusher.publisher.told

  -- the batch that is committed and not published yet, if there is one
  abbrev pub committed_of : Flusher D L disk → List (List Taken)
  committed_of flusher = flusher.publisher.unpublished

  -- the batch that is held and not committed yet, if there is one
  abbrev pub waiting_of : Flusher D L disk → List (List Taken)
  waiting_of flusher = option_to_list (option_map (λ r. r.commands) flusher.waiting)

  -- the moments of the batches that are published, and of the one that is committed
  abbrev pub moments_of : Flusher D L disk → List Moment
  moments_of flusher = flusher.publisher.moments

  -- what is committed and not published yet, and what is held
  abbrev pub under_way : Flusher D L disk → List (List Taken)
  under_way flusher = committed_of flusher ++ waiting_of flusher

  -- the store that it began with
  abbrev pub opened_of : Flusher D L disk → Store D disk
  opened_of flusher = flusher.opened.value

  -- all batches that it was given so far, in order: what is published, what is committed, and what is held
  abbrev pub given_to : Flusher D L disk → List (List Taken)
  given_to flusher = told_of flusher ++ (committed_of flusher ++ waiting_of flusher)

  -- A crash at any moment from its beginning on leaves a prefix of the batches that it was given; and each batch that it published or committed
  -- lasts from its moment on.
  pub record LastsSince (start : State) (opened : Store D disk) (flusher : Flusher D L disk) : Type 0 where
    pub timed : AreMoments start (told_of flusher ++ committed_of flusher) (moments_of flusher)
    pub goes : Goes (IsBeginning 0 start (given_to flusher)) opened (store_of flusher)
    pub each : EachLasts start opened (given_to flusher) (store_of flusher) [] (told_of flusher ++ committed_of flusher) (moments_of flusher)

  -- What is published, what is committed and what is held stays, as does the store that the flusher began with.
  pub record KeepsBatches (old new : Flusher D L disk) : Type 0 where
    pub told : told_of new ≡ told_of old
    pub committed : committed_of new ≡ committed_of old
    pub waiting : waiting_of new ≡ waiting_of old
    pub opened : opened_of new ≡ opened_of old

  -- a batch is held that finds no room in the journal
  abbrev pub HasNoRoom : Flusher D L disk → Type 0
  HasNoRoom flusher = (batch : List Taken) × (waiting_of flusher ≡ batch ∷ []) × (has_room (store_of flusher) batch ≡ false)
