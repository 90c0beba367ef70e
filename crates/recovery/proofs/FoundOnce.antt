-- A content holds parts in one way at most, so by each pick it is found as one state at most.
use Rattle.std.proofs.Common.{◌≡◌, ℕ, zero, suc, ◌<◌, Option, List, [], ◌∷◌, ◌++◌, length, map, refl, sym, ◌∙◌, ap, subst, arith}
use Rattle.std.specs.List.{AllByRecursion}
use Rattle.std.proofs.lemmas.List.Elements.{recursion_from_All}
use Rattle.revision.specs.Command.{Taken}
use Rattle.revision.specs.State.{State}
use Rattle.journal.specs.BatchSpelling.{IsBatch, batch}
use Rattle.journal.proofs.CallerLemmas.{one_spelling}
use Rattle.history.specs.declared.pick.Pick.{Pick}
use Rattle.history.specs.Cell.{Pair, cells_at}
use Rattle.history.specs.Found.{StandFor}
use Rattle.history.specs.Running.{Runs}
use Rattle.history.proofs.CallerLemmas.{at_most_one}
use Rattle.milestone.proofs.CallerLemmas.{one_pair}
use Rattle.segments.specs.Slot.{Segment}
use Rattle.segments.proofs.CallerLemmas.{one_table}
use Rattle.recovery.specs.declared.shape.Shape.{Shape}
use Rattle.recovery.specs.Shape.{cells_place, slots_place}
use Rattle.milestone.specs.declared.format.Format.{Format}
use Rattle.milestone.specs.declared.format.Format.TheVariants.{Two}
use Rattle.recovery.specs.Layout.{HoldsCellsIn, HoldsSlots}
use Rattle.segments.specs.Order.{bodies_of}
use Rattle.recovery.specs.Found.{FoundIn, Found, RunsWith, HoldsPartsIn, HoldsParts, SpellBatches, limits_in, limits_of, commands_of}
use Rattle.recovery.proofs.Named.{named_same}

-- lists of pairs of one length that have the same pair at each number
pairs_same : (a b : List Pair) → length a ≡ length b → ((number : ℕ) → number < length a → cells_at a number ≡ cells_at b number) → a ≡ b
pairs_same [] [] count each = refl
pairs_same [] (y ∷ b) count each = absurd (omega (arith, count))
pairs_same (x ∷ a) [] count each = absurd (omega (arith, count))
pairs_same (x ∷ a) (y ∷ b) count each =
    let first : x ≡ y = each zero (omega arith) in
    let others : a ≡ b = pairs_same a b (omega (arith, count)) (λ number inside. each (suc number) (omega (arith, inside))) in
    λ i. first i ∷ others i

-- the cells of a shape hold one list of pairs at most, and its slots one table
pub cells_same : (format : Format) (content : List ℕ) (shape : Shape) (a b : List Pair) → HoldsCellsIn format content shape a → HoldsCellsIn format content shape b → a ≡ b
cells_same format content shape a b is_a is_b =
    pairs_same a b (is_a.count ∙ sym is_b.count)
    (λ number inside.
    let below : number < shape.docs = omega (arith, inside, is_a.count) in
    one_pair format (cells_place shape number) shape.cell number content (cells_at a number) (cells_at b number) (is_a.each number below) (is_b.each number below))

pub slots_same : (content : List ℕ) (shape : Shape) (a b : List (Option Segment)) → HoldsSlots content shape a → HoldsSlots content shape b → a ≡ b
slots_same content shape a b is_a is_b = one_table (slots_place shape) shape.slot content a b (is_a.count ∙ sym is_b.count) is_a.holds is_b.holds

-- a table's bodies spell one list of batches at most
each_same : (a b : List (List Taken)) → AllByRecursion IsBatch a → AllByRecursion IsBatch b → map batch a ≡ map batch b → a ≡ b
each_same [] [] is_a is_b same = refl
each_same [] (y ∷ b) is_a is_b same = absurd cc
each_same (x ∷ a) [] is_a is_b same = absurd cc
each_same (x ∷ a) (y ∷ b) is_a is_b same =
    let here : batch x ≡ batch y = cc in
    let there : map batch a ≡ map batch b = cc in
    let first = (one_spelling x y [] [] is_a.0 is_b.0 (ap (λ (l : List ℕ). l ++ []) here)).0 in
    let others = each_same a b is_a.1 is_b.1 there in
    λ i. first i ∷ others i

pub batches_same : (table : List (Option Segment)) (a b : List (List Taken)) → SpellBatches (bodies_of table) a → SpellBatches (bodies_of table) b → a ≡ b
batches_same table a b is_a is_b =
    each_same a b (recursion_from_All IsBatch a is_a.each) (recursion_from_All IsBatch b is_b.each) (sym is_a.spelled ∙ is_b.spelled)

-- parts that a content holds are all the parts that it holds
pub record SameParts (shape : Shape) (cells : List Pair) (batches : List (List Taken)) (other : Shape) (other_cells : List Pair) (other_batches : List (List Taken)) : Type 0 where
  pub shapes : other ≡ shape
  pub cells_are : other_cells ≡ cells
  pub batches_are : other_batches ≡ batches

pub parts_once : (format : Format) (content : List ℕ) (shape other : Shape) (cells other_cells : List Pair) (table other_table : List (Option Segment)) (batches other_batches : List (List Taken))
    → HoldsPartsIn format content shape cells table batches → HoldsPartsIn format content other other_cells other_table other_batches
    → SameParts shape cells batches other other_cells other_batches
parts_once format content shape other cells other_cells table other_table batches other_batches holds others =
    let shapes : other ≡ shape = named_same format content other shape others.laid_out.names holds.laid_out.names in
    let here : HoldsPartsIn format content shape other_cells other_table other_batches =
    subst (λ (s : Shape). HoldsPartsIn format content s other_cells other_table other_batches) shapes others in
    let tables : other_table ≡ table = slots_same content shape other_table table here.laid_out.in_slots holds.laid_out.in_slots in
    record {
      shapes = shapes;
      cells_are = cells_same format content shape other_cells cells here.laid_out.in_cells holds.laid_out.in_cells;
      batches_are = batches_same table other_batches batches (subst (λ (t : List (Option Segment)). SpellBatches (bodies_of t) other_batches) tables here.spell) holds.spell;
    }

-- what is found of a content that holds these parts, they represent
pub stand_in : (format : Format) (content : List ℕ) (shape : Shape) (cells : List Pair) (table : List (Option Segment)) (batches : List (List Taken))
    → HoldsPartsIn format content shape cells table batches → (pick : Pick) (state : State) → FoundIn format content pick state
    → StandFor (limits_in format shape) cells (commands_of batches) pick state
stand_in format content shape cells table batches holds pick state found =
    let same = parts_once format content shape found.shape cells found.cells table found.table batches found.batches holds found.holds in
    subst (λ (s : Shape). StandFor (limits_in format s) cells (commands_of batches) pick state) same.shapes
    (subst (λ (c : List Pair). StandFor (limits_in format found.shape) c (commands_of batches) pick state) same.cells_are
    (subst (λ (b : List (List Taken)). StandFor (limits_in format found.shape) found.cells (commands_of b) pick state) same.batches_are found.stand))

-- and a state that its store runs with, they run with
module _ (content : List ℕ) (shape : Shape) (cells : List Pair) (table : List (Option Segment)) (batches : List (List Taken)) (holds : HoldsParts content shape cells table batches) where
  pub stand_at : (pick : Pick) (state : State) → Found content pick state → StandFor (limits_of shape) cells (commands_of batches) pick state
  stand_at = stand_in Two content shape cells table batches holds

  pub runs_at : (state : State) (running : RunsWith content state) → (state.limits ≡ limits_of shape) × Runs running.order cells (commands_of batches) state
  runs_at state running =
      let same = parts_once Two content shape running.shape cells running.cells table running.table batches running.batches holds running.holds in (
        running.limits ∙ ap limits_of same.shapes,
        subst (λ (c : List Pair). Runs running.order c (commands_of batches) state) same.cells_are
            (subst (λ (b : List (List Taken)). Runs running.order running.cells (commands_of b) state) same.batches_are running.runs),
      )

pub found_once_in : (format : Format) (content : List ℕ) (pick : Pick) (a b : State) → FoundIn format content pick a → FoundIn format content pick b → a ≡ b
found_once_in format content pick a b is_a is_b =
    at_most_one (limits_in format is_a.shape) is_a.cells (commands_of is_a.batches) pick a b is_a.stand
    (stand_in format content is_a.shape is_a.cells is_a.table is_a.batches is_a.holds pick b is_b)

pub found_once : (content : List ℕ) (pick : Pick) (a b : State) → Found content pick a → Found content pick b → a ≡ b
found_once = found_once_in Two
