-- From an empty store that isn't open yet to one that begins with documents, cell by cell.
use Rattle.std.proofs.Common.{◌≡◌, inl, inr, ℕ, zero, suc, ◌+◌, ◌-◌, ◌*◌, ◌≤◌, ◌<◌, true, Some, None, List, [], ◌∷◌, ◌++◌, length, map, replicate, take, drop, get_or, refl, sym, ◌∙◌, ap, subst, arith, length-append}
use Rattle.std.specs.Prelude.{slice_get}
use Rattle.std.proofs.lemmas.Bool.{cases_eq, cases_lt}
use Rattle.std.proofs.lemmas.List.{length-map, length-replicate, drop-drop}
use Rattle.std.proofs.lemmas.List.Elements.{All-nil}
use Rattle.std.proofs.lemmas.Option.{slice_get_within, get_or_from_slice_get}
use Rattle.disk.specs.Device.{History, overwritten, SameOutside, IsWrite, IsSync, IsAtMostOneStep}
use Rattle.disk.specs.Crash.{Leaves}
use Rattle.disk.proofs.CallerLemmas.{same_at, byte_overwritten, overwritten_same_outside, goes_on_first_write, goes_on_sync, goes_on_run, leaves_map}
use Rattle.journal.specs.Area.{open_gate}
use Rattle.journal.specs.BatchSpelling.{IsBatch}
use Rattle.history.specs.Cell.{Cell, CellKeeps, Pair, no_cells, cells_at, record_of_cell}
use Rattle.history.specs.Law.{first_cells, begun_with}
use Rattle.history.proofs.CallerLemmas.{begins_with}
use Rattle.milestone.specs.CellSpelling.{cell_body, IsCell}
use Rattle.milestone.specs.LeftOutside.{IsLeftOutside}
use Rattle.milestone.specs.OneCell.{HoldsPair}
use Rattle.milestone.proofs.CallerLemmas.{agree_within, cell_fits}
use Rattle.segments.specs.Table.{slot_place}
use Rattle.recovery.specs.declared.shape.Shape.{Shape}
use Rattle.recovery.specs.Shape.{is_in_range, cells_place, slots_place}
use Rattle.recovery.specs.Layout.{HoldsCells, IsLaidOut}
use Rattle.recovery.specs.Found.{RunsWith, limits_of}
use Rattle.recovery.specs.Formatting.{empty_table, IsUnformatted, MayBegin, IsBegunStore, IsUnformattedOrBegun, IsPrepared, IsPreparedWith}
use Rattle.recovery.proofs.Superblocks.{ranges_of}
use Rattle.recovery.proofs.Layouts.{part_before, part_same, cells_before}
use Rattle.recovery.proofs.EmptyStores.{cells_empty, slots_empty, no_pair, no_bodies}
use Rattle.recovery.proofs.Runs.{found_as}

-- ---- the cells of a store that begins with documents

cells_first : (start : List Cell) (others number : ℕ) → cells_at (map (λ (cell : Cell). (Some cell, None)) start ++ replicate others no_cells) number ≡ (slice_get start number, None)
cells_first [] others number = no_pair others number
cells_first (first ∷ start) others zero = refl
cells_first (first ∷ start) others (suc number) = cells_first start others number

-- a document's cell, in the first place
abbrev in_first : Cell → Pair
in_first cell = (Some cell, None)

cells_count : (start : List Cell) (docs : ℕ) → length start ≤ docs → length (first_cells start docs) ≡ docs
cells_count start docs few =
    let firsts : length (map in_first start) ≡ length start = length-map start in_first in
    let others : length (replicate (docs - length start) no_cells) ≡ docs - length start = length-replicate (docs - length start) no_cells in
    let both : length (first_cells start docs) ≡ length (map in_first start) + length (replicate (docs - length start) no_cells) =
    length-append (map in_first start) (replicate (docs - length start) no_cells) in
    omega (arith, firsts, others, both, few)

pub few_enough : (shape : Shape) (start : List Cell) → MayBegin shape start → length start ≤ shape.docs
few_enough shape start begins = omega (arith, begins.state.count, length-map start record_of_cell)

cells_held : (shape : Shape) (start : List Cell) (content : List ℕ) → MayBegin shape start → IsPreparedWith shape start content → HoldsCells content shape (first_cells start shape.docs)
cells_held shape start content begins is = record {
  count = cells_count start shape.docs (few_enough shape start begins);
  each = λ number below.
      subst (HoldsPair (cells_place shape number) shape.cell number content) (sym (cells_first start (shape.docs - length start) number)) (is.cells number below);
}

-- ---- the superblock's gate

-- with an open gate in front, what is prepared is the store
begun_store : (shape : Shape) (start : List Cell) (content : List ℕ) → is_in_range shape ≡ true → MayBegin shape start → IsPreparedWith shape start content
    → get_or content 0 0 ≡ open_gate → IsBegunStore shape start content
begun_store shape start content in_range begins is gate = record { laid_out = laid_out; found = found_as content (begun_with (limits_of shape) start) runs_with }
  where
    laid_out : IsLaidOut content shape (first_cells start shape.docs) (empty_table shape)
    laid_out = record {
      names = record { formatted = record { long = omega (arith, is.long); gate = gate }; named = is.named; in_range = in_range; long = is.long };
      in_cells = cells_held shape start content begins is;
      in_slots = slots_empty shape content in_range is.slots;
    }

    runs_with : RunsWith content (begun_with (limits_of shape) start)
    runs_with = record {
      shape = shape;
      cells = first_cells start shape.docs;
      table = empty_table shape;
      batches = [];
      order = record { start = start; taken = [] };
      holds = record { laid_out = laid_out; spell = record { spelled = no_bodies shape; each = All-nil IsBatch }; entries = tt };
      limits = refl;
      runs = begins_with (limits_of shape) start begins.state begins.keep;
    }

-- bytes behind what has changed
pub part_behind : (place count bound : ℕ) (old content : List ℕ) → bound ≤ place → drop bound content ≡ drop bound old → take count (drop place content) ≡ take count (drop place old)
part_behind place count bound old content behind same =
    let sum : bound + (place - bound) ≡ place = omega (arith, behind) in
    let at : (l : List ℕ) → drop place l ≡ drop (place - bound) (drop bound l) =
    λ l. ap (λ n. drop n l) (sym sum) ∙ sym (drop-drop (place - bound) bound l) in
    ap (take count) (at content ∙ ap (drop (place - bound)) same ∙ sym (at old))

-- whatever byte is put into the gate
still_prepared : (shape : Shape) (start : List Cell) (old new : List ℕ) → IsPreparedWith shape start old → SameOutside 0 1 old new → IsPreparedWith shape start new
still_prepared shape start old new is same = record {
  named = ap (λ (l : List ℕ). take 32 l) same.after ∙ is.named;
  long = omega (arith, same.same_length, is.long);
  cells = λ number below.
      agree_within (cells_place shape number) shape.cell number old new (slice_get start number, None)
      (part_behind (cells_place shape number) (2 * shape.cell) 1 old new (omega arith) same.after) (is.cells number below);
  slots = λ s inside is_open. is.slots s inside (sym (same_at 0 1 old new same (slot_place (slots_place shape) shape.slot s) (λ within. absurd (omega arith))) ∙ is_open);
}

unformatted_or_begun : (shape : Shape) (start : List Cell) (old : List ℕ) → is_in_range shape ≡ true → MayBegin shape start → IsPreparedWith shape start old → (content : List ℕ)
    → SameOutside 0 1 old content → IsUnformattedOrBegun shape start content
unformatted_or_begun shape start old in_range begins is content same = elim (cases_eq (get_or content 0 0) open_gate) [
  | inl gate ↦ inr (begun_store shape start content in_range begins (still_prepared shape start old content is same) gate)
  | inr closed ↦ inl closed
]

pub sync_prepared_with : {shape : Shape} {start : List Cell} {old mid new : History} → Leaves IsUnformatted old mid → IsAtMostOneStep IsSync mid new
    → Leaves (IsUnformattedOrBegun shape start) old new
sync_prepared_with {shape} {start} {old} {mid} {new} so_far time =
    leaves_map {Q = IsUnformattedOrBegun shape start} (λ content closed. inl closed) (goes_on_sync so_far time)

pub write_gate_with : {shape : Shape} {start : List Cell} {old mid new : History} → Leaves (IsUnformattedOrBegun shape start) old mid → mid.now.unsynced ≡ [] → is_in_range shape ≡ true
    → MayBegin shape start → IsPreparedWith shape start mid.now.seen → IsAtMostOneStep (IsWrite 0 1) mid new → Leaves (IsUnformattedOrBegun shape start) old new
write_gate_with {shape} {start} {old} {mid} {new} so_far synced in_range begins is time =
    goes_on_first_write so_far synced time (omega (arith, is.long)) (λ content same. unformatted_or_begun shape start mid.now.seen in_range begins is content same)

pub opened_with : (shape : Shape) (start : List Cell) (old : List ℕ) → is_in_range shape ≡ true → MayBegin shape start → IsPreparedWith shape start old
    → IsBegunStore shape start (overwritten old 0 (open_gate ∷ []))
opened_with shape start old in_range begins is =
    let fits : 0 + 1 ≤ length old = omega (arith, is.long) in
    begun_store shape start (overwritten old 0 (open_gate ∷ [])) in_range begins
    (still_prepared shape start old (overwritten old 0 (open_gate ∷ [])) is (overwritten_same_outside old 0 (open_gate ∷ []) fits))
    (byte_overwritten old 0 (open_gate ∷ []) 0 (omega arith) (omega arith, omega arith))

-- ---- the documents, one by one

-- before the first one
pub none_put : (shape : Shape) (content : List ℕ) → is_in_range shape ≡ true → IsPrepared shape content → IsPreparedWith shape [] content
none_put shape content in_range is = record {
  named = is.named;
  long = is.long;
  cells = λ number below.
      subst (HoldsPair (cells_place shape number) shape.cell number content) (no_pair shape.docs number) ((cells_empty shape content in_range is.cells).each number below);
  slots = is.slots;
}

-- the first `count` cells, and the one behind them
get_take-other : (start : List Cell) (count number : ℕ) → (number ≡ count → ⊥) → slice_get (take (suc count) start) number ≡ slice_get (take count start) number
get_take-other [] zero number differ = refl
get_take-other [] (suc count) number differ = refl
get_take-other (first ∷ start) zero zero differ = absurd (differ refl)
get_take-other (first ∷ start) zero (suc number) differ = refl
get_take-other (first ∷ start) (suc count) zero differ = refl
get_take-other (first ∷ start) (suc count) (suc number) differ = get_take-other start count number (λ same. differ (ap (λ n. suc n) same))

get_take-own : (start : List Cell) (count : ℕ) (cell : Cell) → slice_get start count ≡ Some cell → slice_get (take (suc count) start) count ≡ Some cell
get_take-own [] zero cell is = absurd cc
get_take-own [] (suc count) cell is = absurd cc
get_take-own (first ∷ start) zero cell is = is
get_take-own (first ∷ start) (suc count) cell is = get_take-own start count cell is

-- One more is put into its first cell.
pub one_put : (shape : Shape) (start : List Cell) (number : ℕ) (cell : Cell) (old new : List ℕ) → is_in_range shape ≡ true → number < shape.docs → slice_get start number ≡ Some cell
    → IsPreparedWith shape (take number start) old → SameOutside (cells_place shape number) shape.cell old new
    → ((pair : Pair) → HoldsPair (cells_place shape number) shape.cell number old pair → HoldsPair (cells_place shape number) shape.cell number new (Some cell, pair.1))
    → IsPreparedWith shape (take (number + 1) start) new
one_put shape start number cell old new in_range inside there is same held = subst (λ n. IsPreparedWith shape (take n start) new) next (record {
  named = part_same 1 32 (cells_place shape number) old new (omega arith) same.before ∙ is.named;
  long = omega (arith, is.long, same.same_length);
  cells = λ other below. elim (cases_eq other number) [
    | inl here ↦ own other here
    | inr differ ↦
        subst (λ o. HoldsPair (cells_place shape other) shape.cell other new (o, None)) (sym (get_take-other start number other differ))
        (agree_within (cells_place shape other) shape.cell other old new (slice_get (take number start) other, None) (apart other differ) (is.cells other below))
  ];
  slots = λ s below is_open. is.slots s below (sym (same_at (cells_place shape number) shape.cell old new same (slot_place (slots_place shape) shape.slot s) (λ within. absurd (behind_cells s within.1))) ∙ is_open);
})
  where
    next : suc number ≡ number + 1
    next = omega arith

    own : (other : ℕ) → other ≡ number → HoldsPair (cells_place shape other) shape.cell other new (slice_get (take (suc number) start) other, None)
    own other here =
        subst (λ n. HoldsPair (cells_place shape n) shape.cell n new (slice_get (take (suc number) start) n, None)) (sym here)
        (subst (λ o. HoldsPair (cells_place shape number) shape.cell number new (o, None)) (sym (get_take-own start number cell there))
        (held (slice_get (take number start) number, None) (is.cells number inside)))

    before_other : (a b : ℕ) → a < b → cells_place shape a + 2 * shape.cell ≤ cells_place shape b
    before_other a b lower = omega (arith, part_before a b (2 * shape.cell) lower)

    apart : (other : ℕ) → (other ≡ number → ⊥) → take (2 * shape.cell) (drop (cells_place shape other) new) ≡ take (2 * shape.cell) (drop (cells_place shape other) old)
    apart other differ = elim (cases_lt other number) [
      | inl lower ↦ part_same (cells_place shape other) (2 * shape.cell) (cells_place shape number) old new (before_other other number lower) same.before
      | inr least ↦
          part_behind (cells_place shape other) (2 * shape.cell) (cells_place shape number + shape.cell) old new
          (omega (arith, before_other number other (higher other least differ))) same.after
    ]
      where
        higher : (other : ℕ) → number ≤ other → (other ≡ number → ⊥) → number < other
        higher other least differ = elim (cases_lt number other) [
          | inl more ↦ more
          | inr le ↦ absurd (differ (omega (arith, least, le)))
        ]

    behind_cells : (s : ℕ) → slot_place (slots_place shape) shape.slot s < cells_place shape number + shape.cell → ⊥
    behind_cells s within = absurd (omega (arith, within, cells_before shape number inside))

-- What a crash leaves meanwhile: writes behind the superblock's gate leave that closed.
pub still_unformatted : {old mid new : History} {place size : ℕ} → Leaves IsUnformatted old mid → 1 ≤ place → Leaves (IsLeftOutside place size mid.now) mid new → Leaves IsUnformatted old new
still_unformatted {old} {mid} {new} {place} {size} so_far behind writes =
    goes_on_run so_far
    (leaves_map {Q = IsUnformatted}
    (λ content left is_open. so_far.last left.before left.left (sym (same_at place size left.before content left.outside 0 (λ within. absurd (omega (arith, within.0, behind)))) ∙ is_open))
    writes)

-- ---- a document and its cell

pub cell_keeps : (shape : Shape) (start : List Cell) (number : ℕ) (cell : Cell) → MayBegin shape start → slice_get start number ≡ Some cell → CellKeeps (limits_of shape) cell
cell_keeps shape start number cell begins there =
    subst (CellKeeps (limits_of shape)) (get_or_from_slice_get start number cell cell there) (begins.keep number cell (slice_get_within start number cell there))

pub fits_first : (shape : Shape) (number : ℕ) (cell : Cell) → is_in_range shape ≡ true → IsCell number cell → CellKeeps (limits_of shape) cell
    → 5 + length (cell_body number cell) ≤ shape.cell
fits_first shape number cell in_range is keeps = omega (arith, cell_fits number (limits_of shape) cell refl is keeps, (ranges_of shape in_range).cell_low)
