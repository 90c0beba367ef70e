-- A store where the cells of many documents change, each by itself.
use Rattle.std.proofs.Common.{◌≡◌, inl, inr, ℕ, zero, suc, ◌*◌, ◌≤◌, ◌<◌, Option, Some, None, List, [], ◌∷◌, length, refl, sym, ◌∙◌, ap, subst, arith}
use Rattle.std.specs.Prelude.{nat_lt, cond}
use Rattle.std.proofs.lemmas.Bool.{cond_both}
use Rattle.disk.specs.declared.device.Disk.{Ghosts}
use Rattle.disk.proofs.CallerLemmas.{same_at}
use Rattle.revision.specs.Command.{Taken}
use Rattle.revision.specs.State.{State}
use Rattle.history.specs.Cell.{Cell, Pair, cells_at, lowest, freed, OfBoth}
use Rattle.history.specs.Shown.{Order}
use Rattle.history.specs.Running.{IsCellAt, Runs}
use Rattle.milestone.specs.Cells.{with_cell}
use Rattle.milestone.specs.OneCell.{HoldsPair}
use Rattle.segments.specs.Slot.{Segment}
use Rattle.segments.specs.Ring.{Fits, at_of, size_of}
use Rattle.recovery.specs.declared.shape.Shape.{Shape}
use Rattle.recovery.specs.declared.store.Store.{Store}
use Rattle.recovery.specs.Shape.{cells_place, slots_place}
use Rattle.recovery.specs.Found.{FoundAs, HoldsParts, commands_of}
use Rattle.recovery.specs.Jobs.{highest}
use Rattle.recovery.specs.Layout.{IsLaidOut}
use Rattle.recovery.specs.Open.{IsOpen}
use Rattle.recovery.specs.steps.Group.{SameOutsideCells, IsLeftTogether}
use Rattle.recovery.proofs.Covering.{low_or_above}
use Rattle.recovery.proofs.Layouts.{part_same}
use Rattle.recovery.proofs.PutCells.{table_stays}
use Rattle.recovery.proofs.Runs.{found_as}
pub use Rattle.history.proofs.CallerLemmas.{freed-of as freed_both, freed-lowest as freed_above}
pub use Rattle.recovery.proofs.Documents.{cells-past as cells_past}

-- pairs that are there one by one make a list of pairs
pub record Chosen (count : ℕ) (P : ℕ → Pair → Type 0) : Type 0 where
  pub pairs : List Pair
  pub as_many : length pairs ≡ count
  pub each : (n : ℕ) → n < count → P n (cells_at pairs n)

chosen_next : (count : ℕ) (P : ℕ → Pair → Type 0) (first : Pair) → P 0 first → Chosen count (λ n p. P (suc n) p) → Chosen (suc count) P
chosen_next count P first has others = record { pairs = first ∷ others.pairs; as_many = ap suc others.as_many; each = each }
  where
    each : (n : ℕ) → n < suc count → P n (cells_at (first ∷ others.pairs) n)
    each zero below = has
    each (suc n) below = others.each n (omega (arith, below))

pub chosen : (count : ℕ) (P : ℕ → Pair → Type 0) → ((n : ℕ) → n < count → (p : Pair) × P n p) → Chosen count P
chosen zero P has = record { pairs = []; as_many = refl; each = λ n below. absurd (omega (arith, below)) }
chosen (suc count) P has =
    chosen_next count P (has 0 (omega arith)).0 (has 0 (omega arith)).1 (chosen count (λ n p. P (suc n) p) (λ n below. has (suc n) (omega (arith, below))))

-- and a cell that is no lower than either takes its place
pub replaced_both : (P : Cell → Type 0) (cell : Cell) (pair : Pair) → P cell → OfBoth P pair → OfBoth P (with_cell cell (freed pair))
replaced_both P cell (None, second) has both = (has, both.1)
replaced_both P cell (Some first, None) has both = (both.0, has)
replaced_both P cell (Some first, Some second) has both =
    cond_both (nat_lt second.revision first.revision) (Some first, None) (None, Some second) (λ (p : Pair). OfBoth P (with_cell cell p)) (λ e. (both.0, has)) (λ e. (has, both.1))

pub replaced_above : (cell : Cell) (pair : Pair) → highest pair ≤ cell.revision → lowest pair ≤ lowest (with_cell cell (freed pair))
replaced_above cell (None, None) below = omega arith
replaced_above cell (None, Some second) below = omega (arith, below)
replaced_above cell (Some first, None) below = omega (arith, below)
replaced_above cell (Some first, Some second) below =
    cond_both (nat_lt second.revision first.revision) (Some first, None) (None, Some second) (λ (p : Pair). lowest (Some first, Some second) ≤ lowest (with_cell cell p))
    (λ e. omega (arith, below)) (λ e. omega (arith, below))

pub replaced_below : (cell : Cell) (pair : Pair) → highest pair ≤ cell.revision → highest (with_cell cell (freed pair)) ≤ cell.revision
replaced_below cell (None, None) below = omega arith
replaced_below cell (None, Some second) below = omega (arith, below)
replaced_below cell (Some first, None) below = omega (arith, below)
replaced_below cell (Some first, Some second) below =
    cond_both (nat_lt second.revision first.revision) (Some first, None) (None, Some second) (λ (p : Pair). highest (with_cell cell p) ≤ cell.revision)
    (λ e. omega (arith, below)) (λ e. omega (arith, below))

-- what a running store may hold of a document: cells of it whose lower one isn't below what the lower one was
abbrev pub MayStand : Order → Pair → ℕ → Pair → Type 0
MayStand order before number pair = OfBoth (IsCellAt order number) pair × (lowest before ≤ lowest pair)

pub freed_may : (order : Order) (before : Pair) (number : ℕ) (pair : Pair) → MayStand order before number pair → MayStand order before number (freed pair)
freed_may order before number pair may = (freed_both (IsCellAt order number) pair may.0, omega (arith, may.1, freed_above pair))

pub replaced_may : (order : Order) (before : Pair) (number : ℕ) (cell : Cell) (pair : Pair) → IsCellAt order number cell → highest pair ≤ cell.revision → MayStand order before number pair
    → MayStand order before number (with_cell cell (freed pair))
replaced_may order before number cell pair is below may =
    (replaced_both (IsCellAt order number) cell pair is may.0, omega (arith, may.1, replaced_above cell pair below))

-- a store runs over other cells of its documents
module _ (order : Order) (cells mixed : List Pair) (entries : List Taken) (state : State) (runs : Runs order cells entries state) (count : length mixed ≡ length cells)
    (each : (n : ℕ) → n < length cells → MayStand order (cells_at cells n) n (cells_at mixed n)) where
  both : (n : ℕ) → OfBoth (IsCellAt order n) (cells_at mixed n)
  both n = elim (low_or_above (length cells) n) [
    | inr inside ↦ (each n inside).0
    | inl past ↦ subst (OfBoth (IsCellAt order n)) (sym (cells_past mixed n (omega (arith, past, count)))) (tt, tt)
  ]

  above : (n : ℕ) → lowest (cells_at cells n) ≤ lowest (cells_at mixed n)
  above n = elim (low_or_above (length cells) n) [
    | inr inside ↦ (each n inside).1
    | inl past ↦ omega (arith, ap lowest (cells_past cells n past))
  ]

  pub mixed_runs : Runs order mixed entries state
  mixed_runs = record {
    retired = runs.retired;
    held = runs.held;
    is_state = runs.is_state;
    pairs = count ∙ runs.pairs;
    start = runs.start;
    is_order = runs.is_order;
    shows = runs.shows;
    cells_are = both;
    covered = λ n. omega (arith, runs.covered n, above n);
  }

-- a layout with other cells
pub laid_out_mixed : (shape : Shape) (old content : List ℕ) (cells mixed : List Pair) (table : List (Option Segment)) → SameOutsideCells shape old content → IsLaidOut old shape cells table
    → length mixed ≡ shape.docs → ((n : ℕ) → n < shape.docs → HoldsPair (cells_place shape n) shape.cell n content (cells_at mixed n)) → IsLaidOut content shape mixed table
laid_out_mixed shape old content cells mixed table same laid_out count each = record {
  names = record {
    formatted = record {
      long = omega (arith, laid_out.names.formatted.long, same.same_length);
      gate = same_at 64 (2 * shape.docs * shape.cell) old content same 0 (λ within. absurd (omega (arith, within.0))) ∙ laid_out.names.formatted.gate;
    };
    named = part_same 1 32 64 old content (omega arith) same.before ∙ laid_out.names.named;
    in_range = laid_out.names.in_range;
    long = omega (arith, laid_out.names.long, same.same_length);
  };
  in_cells = record { count = count; each = each };
  in_slots = record {
    count = laid_out.in_slots.count;
    holds = table_stays (slots_place shape) shape.slot (slots_place shape) old content table (omega arith) same.after laid_out.in_slots.holds;
  };
}

module _ {D : Type 0} {disk : Ghosts D} (store : Store D disk) (is_open : IsOpen store) where
  -- the ring is still that of its slots
  pub ring_mixed : (content : List ℕ) → SameOutsideCells store.shape (disk.seen store.device) content → Fits content store.ring is_open.table
  ring_mixed content same = record {
    holds = table_stays (at_of store.ring) (size_of store.ring) (slots_place store.shape) (disk.seen store.device) content is_open.table (omega (arith, is_open.ring_at)) same.after is_open.fits.holds;
    numbers = is_open.fits.numbers;
    newest = is_open.fits.newest;
  }

  module _ (content : List ℕ) (mixed : List Pair) (same : SameOutsideCells store.shape (disk.seen store.device) content) (count : length mixed ≡ store.shape.docs)
      (holds : (n : ℕ) → n < store.shape.docs → HoldsPair (cells_place store.shape n) store.shape.cell n content (cells_at mixed n))
      (may : (n : ℕ) → n < store.shape.docs → MayStand is_open.order (cells_at is_open.cells n) n (cells_at mixed n)) where
    pub parts_mixed : HoldsParts content store.shape mixed is_open.table is_open.batches
    parts_mixed = record {
      laid_out = laid_out_mixed store.shape (disk.seen store.device) content is_open.cells mixed is_open.table same is_open.holds.laid_out count holds;
      spell = is_open.holds.spell;
      entries = tt;
    }

    pub runs_mixed : Runs is_open.order mixed (commands_of is_open.batches) store.state
    runs_mixed =
        mixed_runs is_open.order is_open.cells mixed (commands_of is_open.batches) store.state is_open.runs (count ∙ sym is_open.holds.laid_out.in_cells.count)
        (λ n inside. may n (omega (arith, inside, is_open.holds.laid_out.in_cells.count)))

    found_mixed : FoundAs content store.state
    found_mixed = found_as content store.state (record {
      shape = store.shape;
      cells = mixed;
      table = is_open.table;
      batches = is_open.batches;
      order = is_open.order;
      holds = parts_mixed;
      limits = is_open.limits;
      runs = runs_mixed;
    })

  -- whatever a crash leaves of each document, the state is found
  pub found_together : (May : ℕ → Pair → Type 0) → ((n : ℕ) (pair : Pair) → n < store.shape.docs → May n pair → MayStand is_open.order (cells_at is_open.cells n) n pair)
      → (content : List ℕ) → IsLeftTogether store.shape (disk.seen store.device) May content → FoundAs content store.state
  found_together May implies content left =
      found_mixed content all.pairs left.outside all.as_many (λ n below. (all.each n below).1) (λ n below. implies n (cells_at all.pairs n) below (all.each n below).0)
    where
      all : Chosen store.shape.docs (λ n p. May n p × HoldsPair (cells_place store.shape n) store.shape.cell n content p)
      all = chosen store.shape.docs (λ n p. May n p × HoldsPair (cells_place store.shape n) store.shape.cell n content p)
          (λ n below. let one = left.each n below in (one.pair, (one.may, one.holds)))
