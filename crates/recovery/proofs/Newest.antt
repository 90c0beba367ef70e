-- Two milestones of a document at its newest revision: both its cells hold it then.
use Rattle.std.proofs.Common.{◌≡◌, ℕ, ◌≤◌, true, false, Bool, Option, Some, None, List, refl, ap, subst, arith}
use Rattle.std.specs.Prelude.{Result, Ok, Err, OnErr, nat_lt, cond, slice_get}
use Rattle.std.proofs.lemmas.Bool.Decides.{nat_tests}
use Rattle.disk.specs.declared.device.Disk.{Ghosts}
use Rattle.refusal.specs.declared.Refusal.{Refusal}
use Rattle.revision.specs.State.{newest_revision, State, DocumentRecord, revision_of}
use Rattle.history.specs.Cell.{Cell, Pair, cells_at, lowest, freed, OfOpen}
use Rattle.history.specs.Running.{IsCellAt}
use Rattle.history.proofs.CallerLemmas.{held_is_cell, cells_reach, one_cell_at}
use Rattle.milestone.specs.Cells.{with_cell}
use Rattle.recovery.specs.declared.shape.Shape.{Shape}
use Rattle.recovery.specs.declared.store.Store.{Store}
use Rattle.recovery.specs.Found.{commands_of, HoldsParts}
use Rattle.recovery.specs.Jobs.{highest}
use Rattle.recovery.specs.Open.{IsOpen, AreBothNewest, newest_cell, device_of, state_of}
use Rattle.recovery.specs.steps.Freeing.{reached_in}
use Rattle.recovery.proofs.FoundOnce.{cells_same, slots_same}
use Rattle.recovery.proofs.Named.{named_same}
use Rattle.milestone.specs.declared.format.Format.TheVariants.{Two}

-- the other cell is the first, no higher than the one that was put
behind_first : (cell first : Cell) → first.revision ≤ cell.revision → with_cell cell (freed (Some first, Some cell)) ≡ (Some cell, Some cell)
behind_first cell first below =
    let test : nat_lt cell.revision first.revision ≡ false = grind (arith, nat_tests) in
    rw test refl

-- or the second
behind_second : (cell second : Cell) → (cell.revision ≤ second.revision → second ≡ cell) → with_cell cell (freed (Some cell, Some second)) ≡ (Some cell, Some cell)
behind_second cell second one = by_test (nat_lt second.revision cell.revision) refl
  where
    by_test : (b : Bool) → nat_lt second.revision cell.revision ≡ b → with_cell cell (cond b (Some cell, None) (None, Some second)) ≡ (Some cell, Some cell)
    by_test true is = refl
    by_test false is = ap (λ (c : Cell). (Some cell, Some c)) (one above)
      where
        above : cell.revision ≤ second.revision
        above = grind (arith, nat_tests)

-- a cell that is put twice stands in both places, where a second one that is no lower is the same
pub put_twice : (cell : Cell) (pair : Pair) → highest pair ≤ cell.revision → ((second : Cell) → pair.1 ≡ Some second → cell.revision ≤ second.revision → second ≡ cell)
    → with_cell cell (freed (with_cell cell (freed pair))) ≡ (Some cell, Some cell)
put_twice cell (None, None) below one = refl
put_twice cell (None, Some second) below one = behind_second cell second (one second refl)
put_twice cell (Some first, None) below one = behind_first cell first (omega (arith, below))
put_twice cell (Some first, Some second) below one = by_test (nat_lt second.revision first.revision)
  where
    by_test : (b : Bool) → with_cell cell (freed (with_cell cell (cond b (Some first, None) (None, Some second)))) ≡ (Some cell, Some cell)
    by_test true = behind_first cell first (omega (arith, below))
    by_test false = behind_second cell second (one second refl)

-- the revision of both cells
pub newest_lowest : (state : State) (document : ℕ) (pair : Pair) → AreBothNewest state document pair → lowest pair ≡ reached_in state document
newest_lowest state document pair newest =
    omega (arith, ap lowest newest.both, ap newest_revision newest.there)

open_there : (P : Cell → Type 0) (x : Option Cell) (cell : Cell) → x ≡ Some cell → OfOpen P x → P cell
open_there P x cell is has = subst (λ (c : Option Cell). OfOpen P c) is has

pub on_err : {A : Type 0} {P : Type 0} (result : Result A Refusal) → P → OnErr result P
on_err (Ok answer) has = tt
on_err (Err refusal) has = has

module _ {D : Type 0} {disk : Ghosts D} where
  -- a store over the same device is over the same cells and slots
  pub still_parts : (old new : Store D disk) (is_open : IsOpen old) (now : IsOpen new) → device_of new ≡ device_of old → (now.cells ≡ is_open.cells) × (now.table ≡ is_open.table)
  still_parts old new is_open now device =
      let content : List ℕ = disk.seen (device_of old) in
      let seen : disk.seen (device_of new) ≡ content = ap (λ (d : D). disk.seen d) device in
      let here = subst (λ (l : List ℕ). HoldsParts l new.shape now.cells now.table now.batches) seen now.holds in
      let shapes : new.shape ≡ old.shape = named_same Two content new.shape old.shape here.laid_out.names is_open.holds.laid_out.names in
      let parts = subst (λ (s : Shape). HoldsParts content s now.cells now.table now.batches) shapes here in (
        cells_same Two content old.shape now.cells is_open.cells parts.laid_out.in_cells is_open.holds.laid_out.in_cells,
        slots_same content old.shape now.table is_open.table parts.laid_out.in_slots is_open.holds.laid_out.in_slots,
      )

  -- an open cell that is no lower than the newest revision holds the document there
  pub newest_already : (store : Store D disk) (is_open : IsOpen store) (document : ℕ) (found : DocumentRecord) → slice_get (state_of store).documents document ≡ Some found
      → 1 ≤ revision_of found → (second : Cell) → (cells_at is_open.cells document).1 ≡ Some second → revision_of found ≤ second.revision → second ≡ newest_cell found
  newest_already store is_open document found there some second is above =
      one_cell_at is_open.order is_open.cells (commands_of is_open.batches) (state_of store) document second (newest_cell found) is_open.runs there_cell
      (held_is_cell is_open.order is_open.cells (commands_of is_open.batches) (state_of store) document found (revision_of found) is_open.runs there (omega arith) some (omega arith))
      (omega (arith, above, cells_reach is_open.order is_open.cells (commands_of is_open.batches) (state_of store) document second is_open.runs there_cell, ap newest_revision there))
    where
      there_cell : IsCellAt is_open.order document second
      there_cell = open_there (IsCellAt is_open.order document) ((cells_at is_open.cells document).1) second is (is_open.runs.cells_are document).1
