-- A milestone whose job is handed out, composed and put at once: what is left where one of these was refused.
use Rattle.std.specs.Prelude.{◌≡◌, ◌≢◌, ℕ}
use Rattle.disk.specs.declared.device.Disk.{Ghosts}
use Rattle.refusal.specs.declared.Refusal.{Refusal}
use Rattle.refusal.specs.declared.Refusal.TheVariants.{NoMemory, Fault}
use Rattle.recovery.specs.declared.store.Store.{Store}
use Rattle.recovery.specs.Open.{IsUnchanged, device_of}
use Rattle.recovery.specs.Run.{MayPut}
use Rattle.recovery.specs.Unwritten.{IsUnchangedButJobs, MayKeepJob}

module _ {D : Type 0} {disk : Ghosts D} where
  -- A refusal for the document or its revision leaves all unchanged. Where memory ran out, nothing spoke against the milestone, and no more than
  -- the document's job may be new.
  pub record IsUnputAtOnce (document revision : ℕ) (refusal : Refusal) (old new : Store D disk) : Type 0 where
    pub untouched : refusal ≢ NoMemory → refusal ≢ Fault → IsUnchanged old new
    pub unwritten : refusal ≢ Fault → device_of new ≡ device_of old
    pub memory : refusal ≡ NoMemory → MayPut document revision old × IsUnchangedButJobs old new
    pub job : MayKeepJob document revision old new
