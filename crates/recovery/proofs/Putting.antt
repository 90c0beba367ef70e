-- A store into which a milestone is put.
use Rattle.std.proofs.Common.{◌≡◌, ◌⊎◌, inl, inr, ℕ, zero, suc, ◌+◌, ◌*◌, ◌≤◌, ◌<◌, Some, None, List, [], ◌∷◌, length, get_or, set, refl, sym, ◌∙◌, ap, subst, arith}
use Rattle.std.specs.Prelude.{nat_lt, max, slice_get, ◌==◌, ◌^◌, not, Contains}
use Rattle.std.proofs.lemmas.Bool.{cond_both}
use Rattle.std.proofs.lemmas.List.{set-get_or}
use Rattle.std.proofs.lemmas.List.Elements.{All-contains}
use Rattle.std.proofs.lemmas.Option.{slice_get_read}
use Rattle.disk.specs.declared.device.Disk.{Ghosts}
use Rattle.disk.specs.Device.{SameOutside}
use Rattle.history.specs.Cell.{Cell, Pair, cells_at, with_pair, lowest, freed, IsPut}
use Rattle.history.specs.Running.{Runs}
use Rattle.history.proofs.CallerLemmas.{frees, puts}
use Rattle.milestone.specs.declared.cells.Cells.{Cells}
use Rattle.milestone.specs.OneCell.{HoldsPair}
use Rattle.milestone.specs.Cells.{Fits, FitsNow, SameCells, HoldsInCells, IsLeftByReplacing, with_cell, place_of, size_of, number_of}
use Rattle.milestone.specs.Job.{Job, cell_of_job}
use Rattle.milestone.specs.CellSpelling.{IsCell, cell_body, inserts_of}
use Rattle.milestone.proofs.CallerLemmas.{cell_fits, light_content, holds_there as cells_hold}
use Rattle.revision.specs.Sources.{count_of}
use Rattle.revision.specs.Width.{delta_width}
use Rattle.segments.specs.Ring.{Fits as RingFits, at_of, size_of as slot_size}
use Rattle.recovery.specs.declared.store.Store.{Store}
use Rattle.recovery.specs.Shape.{cells_place}
use Rattle.recovery.specs.Cells.{IsCellsOf, AreCellsOf, FitEach}
use Rattle.recovery.specs.Found.{FoundAs, HoldsParts, commands_of, limits_of}
use Rattle.recovery.specs.Jobs.{highest, CanBePut, KeepsLimits, AllKeep, without_job}
use Rattle.recovery.specs.Open.{IsOpen, kept_jobs}
use Rattle.recovery.proofs.Layouts.{cells_before}
use Rattle.recovery.proofs.PutCells.{pair_own, length_with_pair, with_pair_twice, table_stays, laid_out_with, cells_put, fit_put}
use Rattle.recovery.proofs.KeptJobs.{all_passing}
use Rattle.recovery.proofs.Superblocks.{Ranges, ranges_of}
use Rattle.recovery.proofs.Runs.{found_as}

-- what is there already is set again
with_own : (number : ℕ) (cells : List Pair) → with_pair number (cells_at cells number) cells ≡ cells
with_own number [] = refl
with_own zero (first ∷ others) = refl
with_own (suc number) (first ∷ others) = ap (λ (l : List Pair). first ∷ l) (with_own number others)

-- a cell that isn't below the open ones is put where one is closed, once the older one is
freed_low : (pair : Pair) → lowest (freed pair) ≤ highest pair
freed_low (None, None) = omega arith
freed_low (None, Some second) = omega arith
freed_low (Some first, None) = omega arith
freed_low (Some first, Some second) =
    cond_both (nat_lt second.revision first.revision) (Some first, None) (None, Some second) (λ (p : Pair). lowest p ≤ max first.revision second.revision) (λ e. omega arith) (λ e. omega arith)

abbrev Closed : Cell → Pair → Type 0
Closed cell before = ((before.0 ≡ None) × (with_cell cell before ≡ (Some cell, before.1))) ⊎ ((before.1 ≡ None) × (with_cell cell before ≡ (before.0, Some cell)))

closed_there : (cell : Cell) (pair : Pair) → Closed cell (freed pair)
closed_there cell (None, second) = inl (refl, refl)
closed_there cell (Some first, None) = inr (refl, refl)
closed_there cell (Some first, Some second) =
    cond_both (nat_lt second.revision first.revision) (Some first, None) (None, Some second) (Closed cell) (λ e. inr (refl, refl)) (λ e. inl (refl, refl))

pub put_freed : (cell : Cell) (pair : Pair) → highest pair ≤ cell.revision → IsPut cell (freed pair) (with_cell cell (freed pair))
put_freed cell pair above = (omega (arith, freed_low pair, above), closed_there cell pair)

module _ {D : Type 0} {disk : Ghosts D} (store : Store D disk) (is_open : IsOpen store) (job : Job) (kept : CanBePut is_open.order is_open.cells job)
    (inside : job.document < store.shape.docs) (one : Cells) (its : IsCellsOf store.shape job.document one) where
  abbrev old : List ℕ
  old = disk.seen store.device

  abbrev number : ℕ
  number = job.document

  abbrev cell : Cell
  cell = cell_of_job job

  abbrev pub before : Pair
  before = cells_at is_open.cells job.document

  abbrev pub after : Pair
  after = with_cell (cell_of_job job) (freed (cells_at is_open.cells job.document))

  below : number < length is_open.cells
  below = omega (arith, inside, is_open.holds.laid_out.in_cells.count)

  abbrev RunsAt : Pair → Type 0
  RunsAt pair = Runs is_open.order (with_pair number pair is_open.cells) (commands_of is_open.batches) store.state

  runs_before : RunsAt before
  runs_before = subst (λ (l : List Pair). Runs is_open.order l (commands_of is_open.batches) store.state) (sym (with_own number is_open.cells)) is_open.runs

  runs_freed : RunsAt (freed before)
  runs_freed = frees is_open.order is_open.cells (commands_of is_open.batches) store.state number is_open.runs below

  pub runs_after : RunsAt after
  runs_after =
      let here : cells_at (with_pair number (freed before) is_open.cells) number ≡ freed before = pair_own number (freed before) is_open.cells below in
      subst (λ (l : List Pair). Runs is_open.order l (commands_of is_open.batches) store.state) (with_pair_twice number (freed before) after is_open.cells)
      (puts is_open.order (with_pair number (freed before) is_open.cells) (commands_of is_open.batches) store.state number cell after runs_freed
      (omega (arith, below, length_with_pair number (freed before) is_open.cells)) kept.is_cell
      (subst (λ (p : Pair). IsPut cell p after) (sym here) (put_freed cell before kept.not_below)))

  -- the cells of the document, where the shape says that they lie
  outside_there : (content : List ℕ) → SameOutside (place_of one) (2 * size_of one) old content → SameOutside (cells_place store.shape number) (2 * store.shape.cell) old content
  outside_there content outside =
      subst (λ n. SameOutside n (2 * store.shape.cell) old content) its.place (subst (λ n. SameOutside (place_of one) (2 * n) old content) its.size outside)

  holds_there : (content : List ℕ) (pair : Pair) → HoldsPair (place_of one) (size_of one) (number_of one) content pair → HoldsPair (cells_place store.shape number) store.shape.cell number content pair
  holds_there content pair holds =
      subst (λ n. HoldsPair n store.shape.cell number content pair) its.place
      (subst (λ n. HoldsPair (place_of one) n number content pair) its.size
      (subst (λ n. HoldsPair (place_of one) (size_of one) n content pair) its.of holds))

  -- the parts with the pair set
  pub parts_with : (content : List ℕ) (pair : Pair) → HoldsInCells old one pair content
      → HoldsParts content store.shape (with_pair number pair is_open.cells) is_open.table is_open.batches
  parts_with content pair held = record {
    laid_out = laid_out_with store.shape number old content (outside_there content held.outside) is_open.cells is_open.table is_open.holds.laid_out inside pair (holds_there content pair held.holds);
    spell = is_open.holds.spell;
    entries = tt;
  }

  found_with : (content : List ℕ) (pair : Pair) → HoldsInCells old one pair content → RunsAt pair → FoundAs content store.state
  found_with content pair held runs = found_as content store.state (record {
    shape = store.shape;
    cells = with_pair number pair is_open.cells;
    table = is_open.table;
    batches = is_open.batches;
    order = is_open.order;
    holds = parts_with content pair held;
    limits = is_open.limits;
    runs = runs;
  })

  -- a crash leaves the state
  pub left_putting : (content : List ℕ) → IsLeftByReplacing old one before cell content → FoundAs content store.state
  left_putting content (inl (inl held)) = found_with content before held runs_before
  left_putting content (inl (inr held)) = found_with content (freed before) held runs_freed
  left_putting content (inr held) = found_with content after held runs_after

  -- the ring is still that of its slots
  pub ring_stays : (content : List ℕ) → SameOutside (place_of one) (2 * size_of one) old content → RingFits content store.ring is_open.table
  ring_stays content outside =
      let same = outside_there content outside in
      let behind : cells_place store.shape number + 2 * store.shape.cell ≤ at_of store.ring = omega (arith, cells_before store.shape number inside, is_open.ring_at) in
      record {
        holds = table_stays (at_of store.ring) (slot_size store.ring) (cells_place store.shape number + 2 * store.shape.cell) old content is_open.table behind same.after is_open.fits.holds;
        numbers = is_open.fits.numbers;
        newest = is_open.fits.newest;
      }

  module _ (content : List ℕ) (later : Cells) (now : FitsNow old one content later after) where
    -- the parts once the cell is put
    pub parts_now : HoldsParts content store.shape (with_pair number after is_open.cells) is_open.table is_open.batches
    parts_now = parts_with content after (record { outside = now.outside; holds = cells_hold content after (sym now.same.place) (sym now.same.size) (sym now.same.number) now.fits.holds })

    -- and the cells that are known
    pub fit_now : FitEach content (set store.cells.items number later) (with_pair number after is_open.cells)
    fit_now = fit_put store.shape old content store.cells.items number later is_open.cells after is_open.cells_are below (outside_there content now.outside) is_open.cells_fit now.fits

-- what a store keeps in memory of a kept job and of its document's cells
module _ {D : Type 0} {disk : Ghosts D} (store : Store D disk) where
  pub composable_later : (number : ℕ) → AllKeep (limits_of store.shape) (without_job number (kept_jobs store))
  composable_later number = all_passing (KeepsLimits (limits_of store.shape)) (λ other. not (other.document == number)) (kept_jobs store) store.composable

  module _ (job : Job) (contains : Contains (kept_jobs store) job) where
    pub keeps_it : KeepsLimits (limits_of store.shape) job
    keeps_it = All-contains (KeepsLimits (limits_of store.shape)) (kept_jobs store) job store.composable contains

    pub never_heavy : ¬ (2 ^ 32 ≤ delta_width (inserts_of (cell_of_job job).content.units))
    never_heavy heavy =
        omega (arith, heavy, light_content (cell_of_job job).content.units, keeps_it.keeps.weight, (ranges_of store.shape store.in_range).cell)

    pub inside_items : (document : ℕ) → document ≡ job.document → document < length store.cells.items
    inside_items document is = omega (arith, is, keeps_it.inside, store.placed.count)

module _ {D : Type 0} {disk : Ghosts D} (store : Store D disk) (job : Job) (contains : Contains (kept_jobs store) job) (document : ℕ) (is : document ≡ job.document)
    (one : Cells) (read : one ≡ get_or store.cells.items document one) where
  pub keeps : KeepsLimits (limits_of store.shape) job
  keeps = keeps_it store job contains

  pub inside_known : document < length store.cells.items
  inside_known = omega (arith, is, keeps.inside, store.placed.count)

  pub there : slice_get store.cells.items document ≡ Some one
  there = slice_get_read store.cells.items (length store.cells.items) document one refl inside_known read

  pub its_cells : IsCellsOf store.shape job.document one
  its_cells = subst (λ n. IsCellsOf store.shape n one) is (store.placed.each document one there)

  pub cells_within : place_of one + 2 * size_of one ≤ length (disk.seen store.device)
  cells_within = omega (arith, its_cells.place, its_cells.size, cells_before store.shape job.document keeps.inside, store.long)

  ranges : Ranges store.shape
  ranges = ranges_of store.shape store.in_range

  -- the milestone has a spelling, and fits
  pub is_cell : ((number : ℕ) → number < 2 ^ 32 → count_of (cell_of_job job).sources < 2 ^ 32 → IsCell number (cell_of_job job)) → IsCell (number_of one) (cell_of_job job)
  is_cell spelled = spelled (number_of one) (omega (arith, its_cells.of, keeps.inside, ranges.docs)) (omega (arith, keeps.keeps.count, ranges.sources))

  pub fits_cell : IsCell (number_of one) (cell_of_job job) → 5 + length (cell_body (number_of one) (cell_of_job job)) ≤ size_of one
  fits_cell is_one =
      omega (arith, cell_fits (number_of one) (limits_of store.shape) (cell_of_job job) refl is_one keeps.keeps, its_cells.size, ranges.cell_low)

  -- the cells that are known later
  pub placed_later : (later : Cells) → SameCells one later → AreCellsOf store.shape (set store.cells.items document later)
  placed_later later same = cells_put store.shape store.cells.items document one later store.placed (store.placed.each document one there) same

  -- put back unchanged
  pub put_back : (later : Cells) → later ≡ one → set store.cells.items document later ≡ store.cells.items
  put_back later same =
      ap (λ (c : Cells). set store.cells.items document c) (same ∙ read) ∙ set-get_or store.cells.items document one

  module _ (is_open : IsOpen store) where
    pub kept_one : CanBePut is_open.order is_open.cells job
    kept_one = All-contains (CanBePut is_open.order is_open.cells) (kept_jobs store) job is_open.kept contains

    pub fits_one : Fits (disk.seen store.device) one (cells_at is_open.cells job.document)
    fits_one = subst (λ n. Fits (disk.seen store.device) one (cells_at is_open.cells n)) is (is_open.cells_fit document one there)
