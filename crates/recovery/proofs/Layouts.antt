-- A layout stays when the slots alone change.
use Rattle.std.proofs.Common.{◌≡◌, ℕ, ◌+◌, ◌-◌, ◌*◌, ◌≤◌, ◌<◌, Option, List, length, sym, ◌∙◌, ap, subst, arith}
use Rattle.std.proofs.lemmas.List.{length-map}
use Rattle.disk.specs.Device.{SameOutside}
use Rattle.disk.proofs.CallerLemmas.{same_at}
use Rattle.history.specs.Cell.{Pair, cells_at}
use Rattle.milestone.proofs.CallerLemmas.{agree_within}
use Rattle.segments.specs.Slot.{Segment, number_of}
use Rattle.segments.specs.Table.{HoldsTable}
use Rattle.segments.specs.declared.ring.Ring.{Ring}
use Rattle.segments.specs.Ring.{Fits, at_of, size_of, known_numbers}
use Rattle.recovery.specs.declared.shape.Shape.{Shape}
use Rattle.recovery.specs.Shape.{cells_place, slots_place}
use Rattle.recovery.specs.Layout.{HoldsSlots, IsLaidOut}
use Rattle.recovery.specs.steps.Reading.{IsRingOf}
use Rattle.recovery.proofs.Superblocks.{ranges_of}
pub use Rattle.segments.proofs.CallerLemmas.{slot_before as part_before}
pub use Rattle.disk.proofs.CallerLemmas.{range_before as part_same}

-- a ring knows one number for each slot of its table
pub as_many : (content : List ℕ) (ring : Ring) (table : List (Option Segment)) → Fits content ring table → length (known_numbers ring) ≡ length table
as_many content ring table fits = ap (λ (l : List (Option ℕ)). length l) fits.numbers ∙ length-map table number_of

-- the slots of a ring that lies as the shape says
pub slots_held : (content : List ℕ) (shape : Shape) (at size : ℕ) (table : List (Option Segment)) → at ≡ slots_place shape → size ≡ shape.slot → length table ≡ shape.slots → HoldsTable at size content table
    → HoldsSlots content shape table
slots_held content shape at size table is_at is_size count holds = record {
  count = count;
  holds = subst (λ n. HoldsTable n shape.slot content table) is_at (subst (λ n. HoldsTable at n content table) is_size holds);
}

pub slots_of : (content : List ℕ) (shape : Shape) (ring : Ring) (table : List (Option Segment)) → IsRingOf shape ring → Fits content ring table → HoldsSlots content shape table
slots_of content shape ring table place fits =
    slots_held content shape (at_of ring) (size_of ring) table place.at place.size (sym (as_many content ring table fits) ∙ place.count) fits.holds

-- the cells of a document lie before the slots
pub cells_before : (shape : Shape) (number : ℕ) → number < shape.docs → cells_place shape number + 2 * shape.cell ≤ slots_place shape
cells_before shape number below =
    let room = part_before number shape.docs (2 * shape.cell) below in
    let all : shape.docs * (2 * shape.cell) ≡ 2 * shape.docs * shape.cell = omega arith in
    omega (arith, room, all)

module _ (old content : List ℕ) (shape : Shape) (cells : List Pair) (table now : List (Option Segment)) (laid_out : IsLaidOut old shape cells table)
    (same : SameOutside (slots_place shape) (shape.slots * shape.slot) old content) (holds : HoldsSlots content shape now) where
  pub laid_out_again : IsLaidOut content shape cells now
  laid_out_again =
      let ranges = ranges_of shape laid_out.names.in_range in
      record {
        names = record {
          formatted = record {
            long = omega (arith, laid_out.names.formatted.long, same.same_length);
            gate = same_at (slots_place shape) (shape.slots * shape.slot) old content same 0 (λ within. absurd (omega (arith, within.0))) ∙ laid_out.names.formatted.gate;
          };
          named = part_same 1 32 (slots_place shape) old content (omega arith) same.before ∙ laid_out.names.named;
          in_range = laid_out.names.in_range;
          long = omega (arith, laid_out.names.long, same.same_length);
        };
        in_cells = record {
          count = laid_out.in_cells.count;
          each = λ number below.
              agree_within (cells_place shape number) shape.cell number old content (cells_at cells number)
              (part_same (cells_place shape number) (2 * shape.cell) (slots_place shape) old content (cells_before shape number below) same.before)
              (laid_out.in_cells.each number below);
        };
        in_slots = holds;
      }
