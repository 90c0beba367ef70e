-- What the flusher's thread does from one moment to a later one, with no word of the board, which other threads move meanwhile.
use Rattle.std.specs.Prelude.{◌≡◌, ◌⊎◌, ◌↔◌, ℕ, true, false, List, [], ◌∷◌, ◌++◌, length, Result, Ok, IfErr, IsErrOf}
use mathlib.Core.List.{IsPrefix}
use Rattle.disk.specs.declared.device.Disk.{Ghosts}
use Rattle.disk.specs.Crash.{MayLeaveNow}
use Rattle.refusal.specs.declared.Refusal.{Refusal}
use Rattle.refusal.specs.declared.Refusal.TheVariants.{JournalFull, StillNeeded, Fault}
use Rattle.revision.specs.Command.{Taken}
use Rattle.published.specs.Batches.{IsShorter}
use Rattle.revision.specs.State.{State, fold}
use Rattle.recovery.specs.declared.store.Store.{Store}
use Rattle.recovery.specs.Found.{commands_of}
use Rattle.recovery.specs.Open.{IsOpen, device_of, state_of, has_failed, has_room}
use Rattle.recovery.specs.Goes.{Goes}
use Rattle.flusher.specs.declared.flusher.Flusher.{Flusher}
use Rattle.flusher.specs.Batches.{IsBeginning}
use Rattle.flusher.specs.Flushers.{IsUsedUp}
use Rattle.flusher.specs.Holding.{store_of, told_of, committed_of, waiting_of, opened_of, given_to}
use Rattle.flusher.specs.Upkeep.{IsKeptUp, KeepsUp}

module _ {D : Type 0} {disk : Ghosts D} where
  -- A batch finds no room in the journal, whose last segment is opened, once it was kept up.
  pub record IsFullFor (batch : List Taken) (old : Store D disk) : Type 0 where
    pub between : Store D disk
    pub kept_up : IsKeptUp old between
    pub works : has_failed old ≡ false → has_failed between ≡ false
    pub no_room : has_room between batch ≡ false
    pub last : IsUsedUp between

  -- There was a moment at which the store held exactly what these first batches make. A crash before it leaves a prefix of all, of so many
  -- commands at least, and a crash at any moment from there on one of no fewer commands than these first batches have.
  pub record WasAt (start : State) (least : ℕ) (first all : List (List Taken)) (old new : Store D disk) : Type 0 where
    pub between : Store D disk
    pub state : state_of between ≡ fold start (commands_of first)
    pub works : has_failed old ≡ false → has_failed between ≡ false
    pub before : Goes (IsBeginning least start all) old between
    pub behind : Goes (IsBeginning (length (commands_of first)) start all) between new

module _ {D L : Type 0} {disk : Ghosts D} where
  -- how many commands are published
  abbrev pub told_count : Flusher D L disk → ℕ
  told_count flusher = length (commands_of (told_of flusher))

  -- Nothing that was published is taken back, and no batch that was given is dropped. A crash at any moment between leaves a prefix
  -- of the batches that were given by the end, and no fewer commands than were published at the beginning; a crash at any moment from
  -- a batch's publishing on no fewer than were published with it; and a crash at the end no fewer than are published then. And there was a
  -- moment from which on it leaves no fewer than are published and committed at the end. The store that the flusher began with stays.
  pub record Writes (start : State) (old new : Flusher D L disk) : Type 0 where
    pub told : (l : List (List Taken)) × (told_of new ≡ told_of old ++ l)
    pub more : (l : List (List Taken)) × (given_to new ≡ given_to old ++ l)
    pub goes : Goes (IsBeginning (told_count old) start (given_to new)) (store_of old) (store_of new)
    pub each : (first : List (List Taken)) → IsShorter (told_of old) first → IsPrefix first (told_of new)
        → WasAt start (told_count old) first (given_to new) (store_of old) (store_of new)
    pub held : WasAt start (told_count old) (told_of new ++ committed_of new) (given_to new) (store_of old) (store_of new)
    pub lasts : has_failed (store_of old) ≡ false → IsOpen (store_of old)
        → (content : List ℕ) → MayLeaveNow disk (device_of (store_of new)) content → IsBeginning (told_count new) start (given_to new) content
    pub opened : opened_of new ≡ opened_of old

  -- What a step of the upkeep comes to, whatever it answers: the store was kept up. It fails exactly where `Fault` is told, and nothing else
  -- refuses the step.
  pub record IsUpkeep {A : Type 0} (result : Result A Refusal) (old new : Flusher D L disk) : Type 0 where
    pub keeps : KeepsUp old new
    pub fails : has_failed (store_of old) ≡ false → (has_failed (store_of new) ≡ true ↔ IsErrOf result Fault)
    pub only : IfErr result (λ e. e ≡ Fault)

  -- a step that nothing refuses
  abbrev pub IsUnrefused : Flusher D L disk → Flusher D L disk → Type 0
  IsUnrefused old new = IsUpkeep {A = Unit {0}} (Ok tt) old new

  -- Exactly one batch was published.
  pub record IsOneMore (old new : Flusher D L disk) : Type 0 where
    pub batch : List Taken
    pub told : told_of new ≡ told_of old ++ batch ∷ []

  -- Why a turn fails the board, where the device didn't: its batch finds no room in the journal.
  abbrev pub IsTurnFailed : Flusher D L disk → Refusal → Flusher D L disk → Type 0
  IsTurnFailed old refusal new =
      ((refusal ≡ JournalFull) ⊎ (refusal ≡ StillNeeded)) × ((batch : List Taken) × (waiting_of new ≡ batch ∷ []) × IsFullFor batch (store_of old))

  -- Some turns were made, and then one that failed the board for this reason.
  pub record IsEndedBy (start : State) (old : Flusher D L disk) (refusal : Refusal) (new : Flusher D L disk) : Type 0 where
    pub last : Flusher D L disk
    pub before : Writes start old last
    pub failed : IsTurnFailed last refusal new
