-- Calls that change nothing outside the cells, and then nothing but the gate of the oldest segment's slot.
use Rattle.std.proofs.Common.{inl, ◌*◌, refl, sym, ◌∙◌, subst}
use Rattle.disk.specs.declared.device.Disk.{Ghosts}
use Rattle.disk.proofs.CallerLemmas.{same_outside_then}
use Rattle.segments.specs.declared.ring.Ring.{Ring}
use Rattle.segments.specs.Ring.{IsSameButOldest}
use Rattle.recovery.specs.declared.shape.Shape.{Shape}
use Rattle.recovery.specs.declared.store.Store.{Store}
use Rattle.recovery.specs.Freed.{ChangesOnly}
use Rattle.recovery.specs.Open.{device_of, ring_of}
use Rattle.recovery.specs.Unwritten.{IsUnchangedButJobs}
use Rattle.recovery.specs.steps.Freeing.{KeepsSegments, ChangesCells}
use Rattle.recovery.specs.steps.Group.{SameOutsideCells}
use Rattle.recovery.proofs.Together.{same_outside}

module _ {D : Type 0} {disk : Ghosts D} where
  pub cells_still : (store : Store D disk) → ChangesCells store store
  cells_still store = record { shape = refl; outside = same_outside (disk.seen store.device) 64 (2 * store.shape.docs * store.shape.cell) }

  pub cells_then : (old mid new : Store D disk) → ChangesCells old mid → ChangesCells mid new → ChangesCells old new
  cells_then old mid new first second = record {
    shape = second.shape ∙ first.shape;
    outside = same_outside_then 64 (2 * old.shape.docs * old.shape.cell) (disk.seen old.device) (disk.seen mid.device) (disk.seen new.device) first.outside
        (subst (λ (s : Shape). SameOutsideCells s (disk.seen mid.device) (disk.seen new.device)) first.shape second.outside);
  }

  pub cells_but_jobs : (old mid new : Store D disk) → ChangesCells old mid → IsUnchangedButJobs mid new → ChangesCells old new
  cells_but_jobs old mid new first same = record {
    shape = same.shape ∙ first.shape;
    outside = subst (λ (d : D). SameOutsideCells old.shape (disk.seen old.device) (disk.seen d)) (sym same.device) first.outside;
  }

  pub only_cells : (old new : Store D disk) → ChangesCells old new → ChangesOnly old new
  only_cells old new changes = record { mid = disk.seen new.device; cells = changes.outside; gate = inl refl }

  pub only_then : (old mid new : Store D disk) → ChangesCells old mid → KeepsSegments old mid → IsSameButOldest (ring_of mid) (disk.seen (device_of mid)) (disk.seen (device_of new))
      → ChangesOnly old new
  only_then old mid new changes keeps gate = record {
    mid = disk.seen mid.device;
    cells = changes.outside;
    gate = subst (λ (r : Ring). IsSameButOldest r (disk.seen mid.device) (disk.seen new.device)) keeps.ring gate;
  }
