-- What is published, committed and held stays.
use Rattle.std.proofs.Common.{refl, ◌∙◌}
use Rattle.disk.specs.declared.device.Disk.{Ghosts}
use Rattle.flusher.specs.declared.flusher.Flusher.{Flusher}
use Rattle.flusher.specs.Holding.{KeepsBatches}

module _ {D L : Type 0} {disk : Ghosts D} where
  -- where nothing is done
  pub keeps_all : (flusher : Flusher D L disk) → KeepsBatches flusher flusher
  keeps_all flusher = record { told = refl; committed = refl; waiting = refl; opened = refl }

  -- over two calls
  pub keeps_on : (old mid new : Flusher D L disk) → KeepsBatches old mid → KeepsBatches mid new → KeepsBatches old new
  keeps_on old mid new first second = record {
    told = second.told ∙ first.told;
    committed = second.committed ∙ first.committed;
    waiting = second.waiting ∙ first.waiting;
    opened = second.opened ∙ first.opened;
  }
