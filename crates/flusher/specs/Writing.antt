-- What a write of the batch that is held comes to, and its commit: what each leaves, and what refuses it.
use Rattle.std.specs.Prelude.{◌≡◌, ◌≢◌, ◌⊎◌, ◌↔◌, true, false, Option, List, [], ◌∷◌, Result, IfSome, IfNone, IfErr, IsErrOf}
use Rattle.disk.specs.declared.device.Disk.{Ghosts}
use Rattle.refusal.specs.Refusal.{IsOneOf}
use Rattle.refusal.specs.declared.Refusal.{Refusal}
use Rattle.refusal.specs.declared.Refusal.TheVariants.{JournalFull, StillNeeded, NoMemory, Fault}
use Rattle.revision.specs.Command.{Taken}
use Rattle.revision.specs.State.{fold}
use Rattle.recovery.specs.Found.{commands_of}
use Rattle.recovery.specs.Freed.{HasFew, SyncsAtMost}
use Rattle.recovery.specs.Goes.{Goes}
use Rattle.recovery.specs.Moment.{Receipt}
use Rattle.recovery.specs.Open.{IsWithOrWithout, IsOpen, IsUnchanged, IsFreedNow, state_of, has_failed, has_room}
use Rattle.recovery.specs.declared.store.Store.{Store}
use Rattle.flusher.specs.declared.flusher.Flusher.{Flusher}
use Rattle.flusher.specs.Flushers.{IsWritten, IsUsedUp, IsHeldCommitted, IsGivenUp}
use Rattle.flusher.specs.Holding.{KeepsBatches, HasNoRoom, store_of, told_of, committed_of, waiting_of, under_way, opened_of}

module _ {D L : Type 0} {disk : Ghosts D} where
  -- This batch is held, and nothing else has changed.
  pub record HoldsNow (batch : List Taken) (old new : Flusher D L disk) : Type 0 where
    pub store : store_of new ≡ store_of old
    pub told : told_of new ≡ told_of old
    pub committed : committed_of new ≡ committed_of old
    pub waiting : waiting_of new ≡ batch ∷ []
    pub opened : opened_of new ≡ opened_of old

  -- What was held, one batch or none, is committed, and nothing is held any more. Readers are shown nothing new.
  pub record HasCommitted (old new : Flusher D L disk) : Type 0 where
    pub told : told_of new ≡ told_of old
    pub committed : committed_of new ≡ under_way old
    pub waiting : waiting_of new ≡ []
    pub state : state_of (store_of new) ≡ fold (state_of (store_of old)) (commands_of (waiting_of old))
    pub store : IsHeldCommitted (waiting_of old) (store_of old) (store_of new)
    pub opened : opened_of new ≡ opened_of old

  -- What was under way, one batch or none, is committed and published, and nothing is under way any more. What is given is the receipt of
  -- the batch and the token that ends with it, or nothing, where there was none.
  pub record HasPublished (given : Option (Receipt D × List (List Taken))) (old new : Flusher D L disk) : Type 0 where
    pub some : IfSome given (λ both. IsWritten (told_of old) (under_way old) (told_of new) both.0.batch both.1)
    pub none : IfNone given ((under_way old ≡ []) × (told_of new ≡ told_of old))
    pub committed : committed_of new ≡ []
    pub waiting : waiting_of new ≡ []
    pub state : state_of (store_of new) ≡ fold (state_of (store_of old)) (commands_of (waiting_of old))
    pub store : IsHeldCommitted (waiting_of old) (store_of old) (store_of new)
    pub opened : opened_of new ≡ opened_of old

  -- The batch that was held is held still, and isn't committed.
  pub record IsHeldStill (old new : Flusher D L disk) : Type 0 where
    pub batches : KeepsBatches old new
    pub state : state_of (store_of new) ≡ state_of (store_of old)

  -- What a commit that may free a segment leaves where it is refused: a batch was held, and is held still. Where memory ran out, a segment is
  -- freed for it, or partly freed, if it had no room.
  pub record LeavesHeld (refusal : Refusal) (old new : Flusher D L disk) : Type 0 where
    pub some : waiting_of old ≢ []
    pub still : IsHeldStill old new
    pub memory : refusal ≡ NoMemory → IsGivenUp (waiting_of old) (store_of old) (store_of new)

  -- What a write leaves where it is refused: what was under way is so still, and readers are shown nothing new. Where memory ran out, the batch
  -- that was held may be committed; at any other refusal it isn't.
  pub record IsUnpublished (refusal : Refusal) (old new : Flusher D L disk) : Type 0 where
    pub told : told_of new ≡ told_of old
    pub held : under_way new ≡ under_way old
    pub opened : opened_of new ≡ opened_of old
    pub still : refusal ≢ NoMemory → IsHeldStill old new
    pub memory : refusal ≡ NoMemory
        → ((waiting_of new ≡ waiting_of old) × IsGivenUp (waiting_of old) (store_of old) (store_of new))
        ⊎ ((waiting_of new ≡ []) × IsHeldCommitted (waiting_of old) (store_of old) (store_of new))

  -- Why a write is refused, or a commit that may free a segment. As `JournalFull`: the batch that is held has no room, and has none after a
  -- segment was freed. As `StillNeeded`: it has no room, and none could be freed, so nothing was written. Both come only once the last segment
  -- that there can be is opened.
  pub record IsWriteRefused (refusal : Refusal) (old new : Flusher D L disk) : Type 0 where
    pub only : IsOneOf refusal (JournalFull ∷ StillNeeded ∷ NoMemory ∷ Fault ∷ [])
    pub full : refusal ≡ JournalFull
        → HasNoRoom old × HasNoRoom new × ((is_open : IsOpen (store_of old)) → IsFreedNow (store_of old) is_open (store_of new))
    pub needed : refusal ≡ StillNeeded → HasNoRoom old × (IsOpen (store_of old) → HasFew (store_of old) × IsUnchanged (store_of old) (store_of new))
    pub used_up : (refusal ≡ JournalFull) ⊎ (refusal ≡ StillNeeded) → IsUsedUp (store_of old)

  -- It is told so: the batch that is held had no room in the store of that moment, which had opened its last segment.
  pub record IsFullForGood (refusal : Refusal) (then : Store D disk) (flusher : Flusher D L disk) : Type 0 where
    pub told : (refusal ≡ JournalFull) ⊎ (refusal ≡ StillNeeded)
    pub no_room : (batch : List Taken) × (waiting_of flusher ≡ batch ∷ []) × (has_room then batch ≡ false)
    pub last : IsUsedUp then

  -- A batch was held, and is held still, since its commit is refused, which frees no segment: it has no room, memory ran out, or the device
  -- failed. All but the last leaves the store unchanged.
  pub record IsHeldBack (refusal : Refusal) (old new : Flusher D L disk) : Type 0 where
    pub only : IsOneOf refusal (JournalFull ∷ NoMemory ∷ Fault ∷ [])
    pub some : waiting_of old ≢ []
    pub still : IsHeldStill old new
    pub full : refusal ≡ JournalFull → HasNoRoom old
    pub unchanged : refusal ≢ Fault → IsUnchanged (store_of old) (store_of new)

  -- A failure of the device is told as `Fault`, and nothing else is. In a store that had failed before, a batch that is held is refused so,
  -- and all of the store is unchanged.
  pub record TellsFaults {A : Type 0} (result : Result A Refusal) (old new : Flusher D L disk) : Type 0 where
    pub fails : has_failed (store_of old) ≡ false → (has_failed (store_of new) ≡ true ↔ IsErrOf result Fault)
    pub failed_before : has_failed (store_of old) ≡ true → (batch : List Taken) → waiting_of old ≡ batch ∷ []
        → IsErrOf result Fault × IsUnchanged (store_of old) (store_of new)

  -- What a write of the batch that is held has of its commit, which may free a segment. A crash at any moment leaves the state before it, or
  -- the one with the batch. It makes no more syncs than a commit that makes room: they grow with the bytes of documents, and not with their
  -- number. And it tells when it is refused.
  pub record WritesHeld {A : Type 0} (result : Result A Refusal) (old new : Flusher D L disk) : Type 0 where
    pub goes : Goes (IsWithOrWithout (state_of (store_of old)) (commands_of (waiting_of old))) (store_of old) (store_of new)
    pub syncs : SyncsAtMost 6 (store_of old) (store_of new)
    pub why : IfErr result (λ e. IsWriteRefused e old new)
    pub few : has_failed (store_of old) ≡ false → HasNoRoom old → HasFew (store_of old) → IsErrOf result StillNeeded
    pub faults : TellsFaults result old new
