-- From closed gates to an empty store, and what a crash leaves on the way.
use Rattle.std.proofs.Common.{◌≡◌, inl, inr, ℕ, ◌+◌, ◌-◌, ◌*◌, ◌≤◌, ◌<◌, true, Option, Some, None, zero, suc, List, [], ◌∷◌, length, replicate, take, drop, get_or, refl, sym, ◌∙◌, ap, subst, arith}
use Rattle.std.proofs.Math.Nat.{mul-le-mul_left}
use Rattle.std.proofs.lemmas.Bool.{cases_eq, cases_lt}
use Rattle.std.proofs.lemmas.List.{take_at, get_or-replicate, get_or_past, length-replicate}
use Rattle.std.proofs.Math.ListN.{get_or-map}
use Rattle.std.specs.List.{flat_map}
use Rattle.std.proofs.lemmas.List.Elements.{All-nil}
use Rattle.disk.specs.Device.{History, overwritten, SameOutside, IsWrite, IsSync, IsAtMostOneStep, NoStep}
use Rattle.disk.specs.Crash.{Leaves}
use Rattle.disk.proofs.CallerLemmas.{same_at, drop_overwritten, overwritten_same_outside, byte_overwritten, begins, goes_on_write, goes_on_first_write, goes_on_sync, goes_on_run, leaves_map}
use Rattle.journal.specs.Area.{open_gate}
use Rattle.journal.specs.BatchSpelling.{IsBatch}
use Rattle.revision.specs.Invariants.{IsLimits}
use Rattle.history.specs.Cell.{Pair, no_cells}
use Rattle.history.specs.Shown.{no_order}
use Rattle.history.proofs.CallerLemmas.{begins as begins_empty}
use Rattle.milestone.specs.OneCell.{HoldsPair}
use Rattle.segments.specs.Slot.{Segment, HoldsSlot, number_of}
use Rattle.segments.specs.Numbers.{number_at}
use Rattle.segments.specs.Table.{slot_place, slot_bytes, slot_at, numbers_of}
use Rattle.segments.specs.Order.{segments_of, bodies_of}
use Rattle.recovery.specs.declared.shape.Shape.{Shape}
use Rattle.recovery.specs.Shape.{is_in_range, layout_length, cell_place, cells_place, slots_place, superblock}
use Rattle.recovery.specs.Layout.{IsClosed, HoldsCells, HoldsSlots, IsLaidOut}
use Rattle.recovery.specs.Found.{RunsWith, limits_of, empty_state}
use Rattle.recovery.specs.Formatting.{empty_table, IsUnformatted, IsEmptyStore, IsUnformattedOrEmpty, IsPrepared, IsOnlySynced, LeavesFromSync}
use Rattle.recovery.proofs.Superblocks.{ranges_of}
use Rattle.recovery.proofs.Runs.{found_as}
pub use Rattle.history.proofs.CallerLemmas.{none-open as no_pair}
use Rattle.segments.proofs.CallerLemmas.{first_byte}

-- a gate that is written closed is closed, and no other one is opened
pub closed_at : (old : List ℕ) (at : ℕ) → at + 1 ≤ length old → IsClosed (overwritten old at (0 ∷ [])) at
closed_at old at fits is_open =
    let start : at - at ≡ 0 = omega arith in
    let here : get_or (overwritten old at (0 ∷ [])) at 0 ≡ 0 = byte_overwritten old at (0 ∷ []) at (omega arith) (omega arith, omega arith) ∙ ap (λ k. get_or (0 ∷ []) k 0) start in
    absurd (omega (arith, here, is_open))

pub stays_closed : (old : List ℕ) (at : ℕ) → at + 1 ≤ length old → (place : ℕ) → IsClosed old place → IsClosed (overwritten old at (0 ∷ [])) place
stays_closed old at fits place closed = elim (cases_eq place at) [
  | inl here ↦ rw here (closed_at old at fits)
  | inr elsewhere ↦ λ is_open.
      closed (sym (same_at at 1 old (overwritten old at (0 ∷ [])) (overwritten_same_outside old at (0 ∷ []) fits) place (λ within. elsewhere (omega arith))) ∙ is_open)
]

-- a write behind the superblock's gate leaves that closed
pub stays_unformatted : {old mid new : History} {at count : ℕ} → Leaves IsUnformatted old mid → IsAtMostOneStep (IsWrite at count) mid new → at + count ≤ length mid.now.seen → 1 ≤ at → Leaves IsUnformatted old new
stays_unformatted {old} {mid} {new} {at} {count} so_far time fits behind =
    goes_on_write so_far time fits (λ before content left same is_open.
    so_far.last before left (sym (same_at at count before content same 0 (λ within. absurd (omega arith))) ∙ is_open))

-- the gate of a part that is there lies on the device
pub gate_fits : (at size count k long : ℕ) → at + count * size ≤ long → 1 ≤ size → k < count → at + k * size + 1 ≤ long
gate_fits at size count k long within some inside =
    let more : size * (k + 1) ≤ size * count = mul-le-mul_left size (omega arith) in
    omega (arith, more)

-- where the superblock is written behind its gate, all is prepared
pub prepared : (shape : Shape) (old : List ℕ) → layout_length shape ≤ length old → 33 ≤ length old
    → ((k : ℕ) → k < 2 * shape.docs → IsClosed old (cell_place shape k)) → ((s : ℕ) → s < shape.slots → IsClosed old (slot_place (slots_place shape) shape.slot s))
    → IsPrepared shape (overwritten old 1 (superblock shape))
prepared shape old long fits cells slots = record {
  named = ap (λ (l : List ℕ). take 32 l) (drop_overwritten old 1 (superblock shape) (omega arith)) ∙ take_at (superblock shape) (drop (1 + length (superblock shape)) old) 32 refl;
  long = omega (arith, same.same_length);
  cells = λ k inside is_open. cells k inside (sym (same_at 1 32 old (overwritten old 1 (superblock shape)) same (cell_place shape k) (λ within. absurd (omega arith))) ∙ is_open);
  slots = λ s inside is_open. slots s inside (sym (same_at 1 32 old (overwritten old 1 (superblock shape)) same (slot_place (slots_place shape) shape.slot s) (λ within. absurd (omega arith))) ∙ is_open);
}
  where
    same : SameOutside 1 32 old (overwritten old 1 (superblock shape))
    same = overwritten_same_outside old 1 (superblock shape) (omega arith)

-- whatever byte is put into the superblock's gate
pub still_prepared : (shape : Shape) (old new : List ℕ) → IsPrepared shape old → SameOutside 0 1 old new → IsPrepared shape new
still_prepared shape old new is same = record {
  named = ap (λ (l : List ℕ). take 32 l) same.after ∙ is.named;
  long = omega (arith, same.same_length, is.long);
  cells = λ k inside is_open. is.cells k inside (sym (same_at 0 1 old new same (cell_place shape k) (λ within. absurd (omega arith))) ∙ is_open);
  slots = λ s inside is_open. is.slots s inside (sym (same_at 0 1 old new same (slot_place (slots_place shape) shape.slot s) (λ within. absurd (omega arith))) ∙ is_open);
}

-- a table in which no slot is open has no numbers, and no bodies
no_slot : (count slot : ℕ) → slot_at (replicate count None) slot ≡ None
no_slot count slot = elim (cases_lt slot count) [
  | inl inside ↦ get_or-replicate count slot None None inside
  | inr past ↦ get_or_past (replicate count None) slot None (omega (arith, past, length-replicate {A = Option Segment} count None))
]

no_number : (count slot : ℕ) → number_at (numbers_of (replicate count None)) slot ≡ None
no_number count slot = get_or-map number_of (replicate count None) slot None ∙ ap number_of (no_slot count slot)

no_segments : (count : ℕ) → segments_of (replicate count None) ≡ []
no_segments zero = refl
no_segments (suc count) = no_segments count

pub no_bodies : (shape : Shape) → bodies_of (empty_table shape) ≡ []
no_bodies shape = ap (λ (l : List Segment). flat_map (λ (segment : Segment). segment.bodies) l) (no_segments shape.slots)

-- the slots hold that table where their gates are closed
pub slots_empty : (shape : Shape) (content : List ℕ) → is_in_range shape ≡ true → ((s : ℕ) → s < shape.slots → IsClosed content (slot_place (slots_place shape) shape.slot s)) → HoldsSlots content shape (empty_table shape)
slots_empty shape content in_range closed = record {
  count = length-replicate shape.slots None;
  holds = record {
    each = λ slot inside.
        let below : slot < shape.slots = omega (arith, inside, length-replicate {A = Option Segment} shape.slots None) in
        let some : 0 < shape.slot = omega (arith, (ranges_of shape in_range).slot_low) in
        subst (HoldsSlot (slot_bytes (slots_place shape) shape.slot content slot)) (sym (no_slot shape.slots slot)) (λ gate.
        closed slot below (sym (first_byte (slot_place (slots_place shape) shape.slot slot) shape.slot content some) ∙ gate));
    differ = λ slot other number one two. absurd (let both : None ≡ Some number = sym (no_number shape.slots slot) ∙ one in cc);
  };
}

-- the two cells of each document are closed where all their gates are
pub cells_empty : (shape : Shape) (content : List ℕ) → is_in_range shape ≡ true → ((k : ℕ) → k < 2 * shape.docs → IsClosed content (cell_place shape k))
    → HoldsCells content shape (replicate shape.docs no_cells)
cells_empty shape content in_range closed = record {
  count = length-replicate shape.docs no_cells;
  each = λ number below.
      let some : 0 < shape.cell = omega (arith, (ranges_of shape in_range).cell_low) in
      let place = cells_place shape number in
      let first : cell_place shape (2 * number) ≡ place = omega arith in
      let second : cell_place shape (2 * number + 1) ≡ place + shape.cell = omega arith in
      let closed_first : IsClosed content place = subst (IsClosed content) first (closed (2 * number) (omega (arith, below))) in
      let closed_second : IsClosed content (place + shape.cell) = subst (IsClosed content) second (closed (2 * number + 1) (omega (arith, below))) in
      subst (λ (p : Pair). HoldsPair place shape.cell number content p) (sym (no_pair shape.docs number))
      (record {
        first = λ gate. closed_first (sym (first_byte place shape.cell content some) ∙ gate);
        second = λ gate. closed_second (sym (first_byte (place + shape.cell) shape.cell content some) ∙ gate);
      });
}

-- the limits of a shape in range
pub are_limits : (shape : Shape) → is_in_range shape ≡ true → IsLimits (limits_of shape)
are_limits shape in_range =
    let ranges = ranges_of shape in_range in
    record {
      some_document = ranges.docs_low;
      docs = ranges.docs;
      some_source = ranges.sources_low;
      sources = ranges.sources;
      weight = omega (arith, ranges.cell);
      width = omega (arith, ranges.slot);
      some_revision = ranges.keep_low;
      keep = ranges.keep;
      retry = omega arith;
    }

-- with an open gate in front, what is prepared is an empty store
pub empty_store : (shape : Shape) (content : List ℕ) → is_in_range shape ≡ true → IsPrepared shape content → get_or content 0 0 ≡ open_gate → IsEmptyStore shape content
empty_store shape content in_range is gate = record { laid_out = laid_out; found = found_as content (empty_state shape) runs_with }
  where
    laid_out : IsLaidOut content shape (replicate shape.docs no_cells) (empty_table shape)
    laid_out = record {
      names = record { formatted = record { long = omega (arith, is.long); gate = gate }; named = is.named; in_range = in_range; long = is.long };
      in_cells = cells_empty shape content in_range is.cells;
      in_slots = slots_empty shape content in_range is.slots;
    }

    runs_with : RunsWith content (empty_state shape)
    runs_with = record {
      shape = shape;
      cells = replicate shape.docs no_cells;
      table = empty_table shape;
      batches = [];
      order = no_order;
      holds = record { laid_out = laid_out; spell = record { spelled = no_bodies shape; each = All-nil IsBatch }; entries = tt };
      limits = refl;
      runs = begins_empty (limits_of shape) (are_limits shape in_range);
    }

-- so whatever a crash leaves in that gate
pub unformatted_or_empty : (shape : Shape) (old : List ℕ) → is_in_range shape ≡ true → IsPrepared shape old → (content : List ℕ) → SameOutside 0 1 old content → IsUnformattedOrEmpty shape content
unformatted_or_empty shape old in_range is content same = elim (cases_eq (get_or content 0 0) open_gate) [
  | inl gate ↦ inr (empty_store shape content in_range (still_prepared shape old content is same) gate)
  | inr closed ↦ inl closed
]

-- the last steps: a sync of what is prepared, and a write into the superblock's gate
pub sync_prepared : {shape : Shape} {old mid new : History} → Leaves IsUnformatted old mid → IsAtMostOneStep IsSync mid new → Leaves (IsUnformattedOrEmpty shape) old new
sync_prepared {shape} {old} {mid} {new} so_far time = leaves_map {Q = IsUnformattedOrEmpty shape} (λ content closed. inl closed) (goes_on_sync so_far time)

pub write_gate : {shape : Shape} {old mid new : History} → Leaves (IsUnformattedOrEmpty shape) old mid → mid.now.unsynced ≡ [] → is_in_range shape ≡ true → IsPrepared shape mid.now.seen → IsAtMostOneStep (IsWrite 0 1) mid new → Leaves (IsUnformattedOrEmpty shape) old new
write_gate {shape} {old} {mid} {new} so_far synced in_range is time =
    goes_on_first_write so_far synced time (omega (arith, is.long)) (λ content same. unformatted_or_empty shape mid.now.seen in_range is content same)

-- the gate is open, and the store is empty
pub opened : (shape : Shape) (old : List ℕ) → is_in_range shape ≡ true → IsPrepared shape old → IsEmptyStore shape (overwritten old 0 (open_gate ∷ []))
opened shape old in_range is =
    let fits : 0 + 1 ≤ length old = omega (arith, is.long) in
    empty_store shape (overwritten old 0 (open_gate ∷ [])) in_range (still_prepared shape old (overwritten old 0 (open_gate ∷ [])) is (overwritten_same_outside old 0 (open_gate ∷ []) fits))
    (byte_overwritten old 0 (open_gate ∷ []) 0 (omega arith) (omega arith, omega arith))

pub nothing_done : (at_start : History) → IsOnlySynced at_start at_start
nothing_done at_start = record { seen = refl; time = NoStep refl }

-- a run that is nothing but that
pub just_synced : {P : List ℕ → Type 0} {old new : History} → IsOnlySynced old new → LeavesFromSync P old new
just_synced {P} {old} {new} synced = record { synced = new; first = synced; later = inl refl }

-- a run with writes after that
pub synced_and_written : {P : List ℕ → Type 0} {old mid new : History} → IsOnlySynced old mid → mid.now.unsynced ≡ [] → IsUnformatted old.now.seen → (mid.now.unsynced ≡ [] → IsUnformatted mid.now.seen → Leaves P mid new) → LeavesFromSync P old new
synced_and_written {P} {old} {mid} {new} synced rest unformatted writes =
    record { synced = mid; first = synced; later = inr (rest, writes rest (subst IsUnformatted (sym synced.seen) unformatted)) }

-- a run of a sync and what follows it, on a device that was synced before
pub from_sync : {P : List ℕ → Type 0} {old new : History} → LeavesFromSync P old new → old.now.unsynced ≡ [] → P old.now.seen → Leaves P old new
from_sync {P} {old} {new} run rest has =
    let first : Leaves P old run.synced = goes_on_sync (begins old rest has) run.first.time in
    elim run.later [
      | inl same ↦ subst (λ (h : History). Leaves P old h) (sym same) first
      | inr later ↦ goes_on_run first later.1
    ]
