-- What a crash leaves of the new device, told by the old store's state.
use Rattle.std.proofs.Common.{◌≡◌, inl, inr, ℕ, true, false, List, refl, sym, ◌∙◌}
use Rattle.disk.specs.declared.device.Disk.{Ghosts}
use Rattle.disk.specs.Device.{History}
use Rattle.disk.proofs.CallerLemmas.{leaves_map}
use Rattle.history.specs.Cell.{Cell}
use Rattle.history.specs.Law.{begun_with}
use Rattle.revision.specs.State.{State}
use Rattle.recovery.specs.declared.shape.Shape.{Shape}
use Rattle.recovery.specs.Shape.{is_in_range}
use Rattle.recovery.specs.Found.{limits_of}
use Rattle.recovery.specs.Formatting.{IsBegunStore, LeavesFromSync}
use Rattle.migration.specs.Brought.{IsUnformattedOr, MakesOrSpares}
use Rattle.migration.specs.Migrated.{AreCut, IsMigrated}
use Rattle.migration.specs.Copied.{AreCopied, IsCopied}
use Rattle.migration.proofs.Copies.{copies_agree, begins_newest}
pub use Rattle.recovery.proofs.CallerLemmas.{nothing_done as same}

pub migrated : (shape : Shape) (state : State) (start : List Cell) (content : List ℕ) → AreCut state start → IsBegunStore shape start content → IsMigrated shape state content
migrated shape state start content cut is = record { names = is.laid_out.names; start = start; cut = cut; found = is.found }

pub copied : (shape : Shape) (state : State) (start : List Cell) (content : List ℕ) → AreCopied state start → IsBegunStore shape start content → IsCopied shape state content
copied shape state start content copies is = record {
  names = is.laid_out.names;
  copy = begun_with (limits_of shape) start;
  found = is.found;
  agrees = copies_agree (limits_of shape) state start copies;
  newest = begins_newest start;
}

-- no store has numbers that are out of range
pub never_begun : (shape : Shape) (start : List Cell) (content : List ℕ) → is_in_range shape ≡ false → IsBegunStore shape start content → ⊥
never_begun shape start content out is =
    let both : false ≡ true = sym out ∙ is.laid_out.names.in_range in
    cc

-- ---- the moments of a run

module _ {P Q : List ℕ → Type 0} (told : (content : List ℕ) → P content → Q content) where
  either : (content : List ℕ) → IsUnformattedOr P content → IsUnformattedOr Q content
  either content (inl closed) = inl closed
  either content (inr is) = inr (told content is)

  -- what a moment may leave is told in other words
  from_sync_as : {old new : History} → LeavesFromSync (IsUnformattedOr P) old new → LeavesFromSync (IsUnformattedOr Q) old new
  from_sync_as run = record {
    synced = run.synced;
    first = run.first;
    later = elim run.later [
      | inl same ↦ inl same
      | inr written ↦ inr (written.0, leaves_map {Q = IsUnformattedOr Q} either written.1)
    ];
  }

  pub spares_as : {D : Type 0} {disk : Ghosts D} {old new : D} → MakesOrSpares disk P old new → MakesOrSpares disk Q old new
  spares_as run = record { kept = run.kept; from_sync = λ unformatted. from_sync_as (run.from_sync unformatted); length = run.length }

pub untouched : {D : Type 0} (disk : Ghosts D) (Is : List ℕ → Type 0) (device : D) → MakesOrSpares disk Is device device
untouched disk Is device = record {
  kept = λ honest formatted. same _;
  from_sync = λ unformatted. record { synced = _; first = same _; later = inl refl };
  length = refl;
}
