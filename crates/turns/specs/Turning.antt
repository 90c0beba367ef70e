-- What a turn comes to, by its answer, and what all of them come to.
use Rattle.std.specs.Prelude.{◌≡◌, ◌≢◌, ◌↔◌, true, false, [], Result, OnOk, IfOk, IfErr, IsErrOf}
use Rattle.disk.specs.declared.device.Disk.{Ghosts}
use Rattle.refusal.specs.declared.Refusal.{Refusal}
use Rattle.refusal.specs.declared.Refusal.TheVariants.{NoMemory, Fault}
use Rattle.revision.specs.State.{State}
use Rattle.flusher.specs.declared.flusher.Flusher.{Flusher}
use Rattle.recovery.specs.Open.{state_of, has_failed}
use Rattle.flusher.specs.Flushers.{cap_of}
use Rattle.flusher.specs.Holding.{store_of, told_of, committed_of, waiting_of}
use Rattle.turns.specs.Writing.{Writes, IsOneMore, IsTurnFailed, IsEndedBy}
use Rattle.turns.specs.declared.turned.Turned.{Turned}
use Rattle.turns.specs.declared.turned.Turned.TheVariants.{Settled, Nothing}

module _ {D L : Type 0} {disk : Ghosts D} where
  -- One batch was published, where the hub settled one, and the hub's board had settled all that is published then. Where nothing was to be taken
  -- none was, and a run as long as a slot takes was asked for.
  abbrev pub HasTurned : Flusher D L disk → Turned D L → Flusher D L disk → Type 0
  HasTurned old (Settled token) new = IsOneMore old new × (token ≡ told_of new)
  HasTurned old (Nothing token) new = (told_of new ≡ told_of old) × (token ≡ cap_of (state_of (store_of new)))

  -- What a turn answers and leaves. Where it is made nothing is held any more. Where memory ran out nothing was published. It fails with `Fault`
  -- exactly when the device fails, and each other refusal comes of a full journal.
  pub record IsTurn (start : State) (old : Flusher D L disk) (result : Result (Turned D L) Refusal) (new : Flusher D L disk) : Type 0 where
    pub writes : Writes start old new
    pub turned : IfOk result (λ answer. HasTurned old answer new)
    pub nothing : OnOk result ((committed_of new ≡ []) × (waiting_of new ≡ []))
    pub unpublished : IsErrOf result NoMemory → told_of new ≡ told_of old
    pub fails : has_failed (store_of old) ≡ false → (has_failed (store_of new) ≡ true ↔ IsErrOf result Fault)
    pub causes : IfErr result (λ e. e ≢ NoMemory → e ≢ Fault → IsTurnFailed old e new)

  -- Turns were made until the hub was ended, or until one failed the board. At `Ok` nothing is left to write or to publish. They fail with `Fault`
  -- exactly when the device fails, and each other refusal is of a last turn that found the journal full.
  pub record HasWritten {A : Type 0} (start : State) (old new : Flusher D L disk) (answer : Result A Refusal) : Type 0 where
    pub writes : Writes start old new
    pub nothing : OnOk answer ((committed_of new ≡ []) × (waiting_of new ≡ []))
    pub fails : has_failed (store_of old) ≡ false → (has_failed (store_of new) ≡ true ↔ IsErrOf answer Fault)
    pub causes : IfErr answer (λ e. e ≢ Fault → IsEndedBy start old e new)
