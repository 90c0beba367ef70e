-- A device that was read, where memory ran out then.
use Rattle.std.proofs.Common.{◌≡◌, inl, inr}
use Rattle.refusal.specs.declared.Refusal.{Refusal}
use Rattle.refusal.specs.declared.Refusal.TheVariants.{NoMemory}
use Rattle.disk.specs.declared.device.Disk.{Ghosts}
use Rattle.history.specs.declared.pick.Pick.{Pick}
use Rattle.recovery.specs.Opened.{IsReadDevice, OpeningIsRefused}
use Rattle.inspection.specs.Checking.{CheckIsRefused}

pub memory_alone : {D : Type 0} (disk : Ghosts D) (pick : Pick) (refusal : Refusal) (old new : D) → refusal ≡ NoMemory → IsReadDevice disk old new
    → OpeningIsRefused disk pick refusal old new
memory_alone disk pick refusal old new memory device = record {
  not_formatted = λ is. absurd (cc);
  old_format = λ is. absurd (cc);
  damaged = λ is. absurd (cc);
  open_or = λ honest state of. inl memory;
  fault = λ is. absurd (cc);
  no_fault = λ other. device.good;
  only = inr (inr (inr (inl memory)));
  time = device.time;
  seen = device.seen;
}

-- and where it ran out with both readings at hand
pub check_memory : {D : Type 0} (disk : Ghosts D) (refusal : Refusal) (old new : D) → refusal ≡ NoMemory → CheckIsRefused disk refusal old new
check_memory disk refusal old new memory = record {
  damaged = λ is. absurd (cc);
  ran = λ honest state of. inl memory;
  not_formatted = λ is. absurd (cc);
  old_format = λ is. absurd (cc);
  only = inr (inr (inr (inl memory)));
}
