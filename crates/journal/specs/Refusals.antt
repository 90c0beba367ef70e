-- The refusals that errors of the journal are told as.
use Rattle.refusal.specs.declared.Refusal.{Refusal}
use Rattle.refusal.specs.declared.Refusal.TheVariants as refusals
use Rattle.journal.specs.declared.area.AppendError.{AppendError}
use Rattle.journal.specs.declared.area.AppendError.TheVariants as append
use Rattle.journal.specs.declared.scan.ScanError.{ScanError}
use Rattle.journal.specs.declared.scan.ScanError.TheVariants as scan

abbrev pub refusal_of_append : AppendError → Refusal
refusal_of_append append.NoRoom = refusals.JournalFull
refusal_of_append append.Fault = refusals.Fault

abbrev pub refusal_of_scan : ScanError → Refusal
refusal_of_scan scan.Damaged = refusals.Damaged
refusal_of_scan scan.NoMemory = refusals.NoMemory
refusal_of_scan scan.Fault = refusals.Fault
