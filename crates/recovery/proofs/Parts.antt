-- The parts of a content that were read, and what is found of it.
use Rattle.std.proofs.Common.{◌≡◌, ℕ, ◌≤◌, ◌<◌, Bool, true, false, cond, List, [], ◌∷◌, ◌++◌, map, Option, refl, sym, ap, subst, ◌∙◌, ⊎_elim, arith}
use Rattle.std.specs.Prelude.{◌==◌, nat_lt, All, slice_get}
use Rattle.std.specs.List.{flat_map, AllByRecursion}
use Rattle.std.proofs.lemmas.Bool.{and_from, lt-ltb, cases_lt, eq-eqb}
use Rattle.std.proofs.lemmas.List.{map-append}
use Rattle.std.proofs.lemmas.List.Concat.{flat_map-append}
use Rattle.std.proofs.lemmas.List.Elements.{All-append, All-nil, All-cons, All-head, All-tail, recursion_from_All, All-from_recursion}
use Rattle.revision.specs.Command.{Taken}
use Rattle.revision.specs.State.{Limits, State}
use Rattle.revision.specs.Invariants.{IsLimits}
use Rattle.journal.specs.BatchSpelling.{IsBatch, batch}
use Rattle.history.specs.declared.pick.Pick.{Pick}
use Rattle.history.specs.Entries.{of_document}
use Rattle.history.specs.Cell.{Pair, cells_at, picked}
use Rattle.history.specs.Found.{StandsFor, StandFor}
use Rattle.history.specs.Reading.{HasRead}
use Rattle.history.proofs.CallerLemmas.{stand_is_state, reading_finds}
use Rattle.segments.specs.Slot.{Segment}
use Rattle.segments.specs.Order.{bodies_of, segments_of}
use Rattle.recovery.specs.declared.shape.Shape.{Shape}
use Rattle.milestone.specs.declared.format.Format.{Format}
use Rattle.recovery.specs.Layout.{NamesIn, HoldsCellsIn, HoldsSlots}
use Rattle.recovery.specs.Found.{FoundIn, AreEntriesIn, HoldsPartsIn, SpellBatches, limits_in, commands_of}
use Rattle.recovery.specs.steps.Reading.{are_below, AreByDocument, SpellGroups, commands_in}
use Rattle.recovery.proofs.Documents.{limits_in_range}
use Rattle.recovery.proofs.FoundOnce.{slots_same, batches_same}
use Rattle.recovery.proofs.Named.{named_same}

-- all batches of groups, in order
abbrev pub all_in : List (List (List Taken)) → List (List Taken)
all_in groups = flat_map (λ batches. batches) groups

-- what the bodies of a segment are, and what batches spell
abbrev bodies_in : Segment → List (List ℕ)
bodies_in segment = segment.bodies

abbrev spelled_by : List (List Taken) → List (List ℕ)
spelled_by batches = map batch batches

abbrev AreBatches : List (List Taken) → Type 0
AreBatches batches = All IsBatch batches

-- Groups that the segments of a table spell, together.
joined : (segments : List Segment) (groups : List (List (List Taken))) → map bodies_in segments ≡ map spelled_by groups → flat_map bodies_in segments ≡ map batch (all_in groups)
joined [] [] is = refl
joined [] (g ∷ groups) is = absurd cc
joined (s ∷ segments) [] is = absurd cc
joined (s ∷ segments) (g ∷ groups) is =
    let here : s.bodies ≡ map batch g = cc in
    let others : map bodies_in segments ≡ map spelled_by groups = cc in
    ap (λ (l : List (List ℕ)). l ++ flat_map bodies_in segments) here
    ∙ (ap (λ (l : List (List ℕ)). map batch g ++ l) (joined segments groups others) ∙ sym (map-append batch g (all_in groups)))

all-each : (groups : List (List (List Taken))) → All AreBatches groups → All IsBatch (all_in groups)
all-each [] each = All-nil IsBatch
all-each (g ∷ groups) each = All-append IsBatch g (all_in groups) (All-head AreBatches g groups each) (all-each groups (All-tail AreBatches g groups each))

pub commands-all : (groups : List (List (List Taken))) → commands_of (all_in groups) ≡ commands_in groups
commands-all [] = refl
commands-all (g ∷ groups) = flat_map-append (λ (c : List Taken). c) g (all_in groups) ∙ ap (λ (l : List Taken). commands_of g ++ l) (commands-all groups)

pub spell-all : (table : List (Option Segment)) (groups : List (List (List Taken))) → SpellGroups (segments_of table) groups → SpellBatches (bodies_of table) (all_in groups)
spell-all table groups spell = record { spelled = joined (segments_of table) groups spell.spelled; each = all-each groups spell.each }

-- Batches that the bodies of all segments spell, in groups.
pub record Split (bodies rest : List (List ℕ)) (batches : List (List Taken)) : Type 0 where
  pub first : List (List Taken)
  pub second : List (List Taken)
  pub spelled : bodies ≡ map batch first
  pub others : rest ≡ map batch second
  pub each : AllByRecursion IsBatch first
  pub each_other : AllByRecursion IsBatch second
  pub is : first ++ second ≡ batches

split : (bodies rest : List (List ℕ)) (batches : List (List Taken)) → bodies ++ rest ≡ map batch batches → AllByRecursion IsBatch batches → Split bodies rest batches
split [] rest batches is each = record { first = []; second = batches; spelled = refl; others = is; each = tt; each_other = each; is = refl }
split (b ∷ bodies) rest [] is each = absurd cc
split (b ∷ bodies) rest (x ∷ batches) is each =
    let here : b ≡ batch x = cc in
    let behind : bodies ++ rest ≡ map batch batches = cc in
    let later = split bodies rest batches behind each.1 in
    record {
      first = x ∷ later.first;
      second = later.second;
      spelled = ap (λ (l : List ℕ). l ∷ bodies) here ∙ ap (λ (l : List (List ℕ)). batch x ∷ l) later.spelled;
      others = later.others;
      each = (each.0, later.each);
      each_other = later.each_other;
      is = ap (λ (l : List (List Taken)). x ∷ l) later.is;
    }

pub record Grouped (segments : List Segment) (batches : List (List Taken)) : Type 0 where
  pub groups : List (List (List Taken))
  pub spell : SpellGroups segments groups
  pub is : all_in groups ≡ batches

nothing-spelled : (batches : List (List Taken)) → ◌≡◌ {A = List (List ℕ)} [] (map batch batches) → [] ≡ batches
nothing-spelled [] is = refl
nothing-spelled (x ∷ batches) is = absurd cc

grouped : (segments : List Segment) (batches : List (List Taken)) → flat_map bodies_in segments ≡ map batch batches → AllByRecursion IsBatch batches → Grouped segments batches
grouped [] batches is each = record { groups = []; spell = record { spelled = refl; each = All-nil AreBatches }; is = nothing-spelled batches is }
grouped (s ∷ segments) batches is each =
    let parts = split s.bodies (flat_map bodies_in segments) batches is each in
    let later = grouped segments parts.second parts.others parts.each_other in
    record {
      groups = parts.first ∷ later.groups;
      spell = record {
        spelled = ap (λ (l : List (List ℕ)). l ∷ map bodies_in segments) parts.spelled ∙ ap (λ (l : List (List (List ℕ))). map batch parts.first ∷ l) later.spell.spelled;
        each = All-cons AreBatches parts.first later.groups (All-from_recursion IsBatch parts.first parts.each) later.spell.each;
      };
      is = ap (λ (l : List (List Taken)). parts.first ++ l) later.is ∙ parts.is;
    }

-- Where parts represent a state, each entry is of a document that the state may have.
first-of : (t : Taken) (others : List Taken) → of_document t.document (t ∷ others) ≡ [] → ⊥
first-of t others is =
    let own : t ∷ of_document t.document others ≡ [] =
    sym (ap (λ b. cond b (t ∷ of_document t.document others) (of_document t.document others)) (eq-eqb t.document t.document refl)) ∙ is in
    absurd cc

others-of : (number : ℕ) (t : Taken) (others : List Taken) → of_document number (t ∷ others) ≡ [] → of_document number others ≡ []
others-of number t others = by_test (t.document == number)
  where
    by_test : (b : Bool) → cond b (t ∷ of_document number others) (of_document number others) ≡ [] → of_document number others ≡ []
    by_test true is = absurd cc
    by_test false is = is

pub all-below : (docs : ℕ) (entries : List Taken) → ((number : ℕ) → docs ≤ number → of_document number entries ≡ []) → are_below docs entries ≡ true
all-below docs [] none = refl
all-below docs (t ∷ others) none =
    and_from (nat_lt t.document docs) (are_below docs others)
    (⊎_elim (λ (lt : t.document < docs). lt-ltb t.document docs lt) (λ (past : docs ≤ t.document). absurd (first-of t others (none t.document past))) (cases_lt t.document docs))
    (all-below docs others (λ number past. others-of number t others (none number past)))

pub stand-below : (limits : Limits) (cells : List Pair) (entries : List Taken) (pick : Pick) (state : State) → IsLimits limits → StandFor limits cells entries pick state
    → are_below limits.docs entries ≡ true
stand-below limits cells entries pick state is stand =
    let has : HasRead cells entries pick state = record {
      is_state = stand_is_state limits cells entries pick state is stand;
      each = λ number lt.
          subst (λ l. StandsFor l (picked pick (cells_at cells number)) (of_document number entries) (slice_get state.documents number)) (sym stand.same_limits) (stand.each number);
    } in
    let own : StandFor state.limits cells entries pick state = subst (λ l. StandFor l cells entries pick state) (sym stand.same_limits) stand in
    let left = ((reading_finds cells entries pick state state has own).1 (omega arith)).1 in
    all-below limits.docs entries (λ number past. (left number (omega (arith, past, stand.count))).1)

-- What is found of a content of this shape.
record FoundAt (format : Format) (content : List ℕ) (shape : Shape) (pick : Pick) (state : State) : Type 0 where
  pub cells : List Pair
  pub table : List (Option Segment)
  pub batches : List (List Taken)
  pub holds : HoldsPartsIn format content shape cells table batches
  pub stand : StandFor (limits_in format shape) cells (commands_of batches) pick state

found-at : (format : Format) (content : List ℕ) (shape : Shape) (pick : Pick) (state : State) → NamesIn format content shape → FoundIn format content pick state → FoundAt format content shape pick state
found-at format content shape pick state names found =
    subst (λ (s : Shape). FoundAt format content s pick state) (named_same format content found.shape shape found.holds.laid_out.names names)
    (record { cells = found.cells; table = found.table; batches = found.batches; holds = found.holds; stand = found.stand })

-- the groups in which the segments of a table spell the batches that are found
pub record InGroups (format : Format) (content : List ℕ) (shape : Shape) (pick : Pick) (table : List (Option Segment)) (state : State) : Type 0 where
  pub cells : List Pair
  pub groups : List (List (List Taken))
  pub in_cells : HoldsCellsIn format content shape cells
  pub spell : SpellGroups (segments_of table) groups
  pub below : are_below shape.docs (commands_in groups) ≡ true
  pub entries : AreEntriesIn format (commands_in groups)
  pub stand : StandFor (limits_in format shape) cells (commands_in groups) pick state

pub in-groups : (format : Format) (content : List ℕ) (shape : Shape) (pick : Pick) (table : List (Option Segment)) (state : State) → NamesIn format content shape → HoldsSlots content shape table
    → FoundIn format content pick state → InGroups format content shape pick table state
in-groups format content shape pick table state names slots found =
    let here = found-at format content shape pick state names found in
    let in_slots = here.holds.laid_out.in_slots in
    let same : here.table ≡ table = slots_same content shape here.table table in_slots slots in
    let spell = subst (λ (t : List (Option Segment)). SpellBatches (bodies_of t) here.batches) same here.holds.spell in
    let groups = grouped (segments_of table) here.batches spell.spelled (recursion_from_All IsBatch here.batches spell.each) in
    let commands : commands_of here.batches ≡ commands_in groups.groups = ap commands_of (sym groups.is) ∙ commands-all groups.groups in
    let stand = subst (λ (e : List Taken). StandFor (limits_in format shape) here.cells e pick state) commands here.stand in
    record {
      cells = here.cells;
      groups = groups.groups;
      in_cells = here.holds.laid_out.in_cells;
      spell = groups.spell;
      below = stand-below (limits_in format shape) here.cells (commands_in groups.groups) pick state (limits_in_range format shape names.in_range) stand;
      entries = subst (AreEntriesIn format) commands here.holds.entries;
      stand = stand;
    }

-- no slots, no content
pub not-slots : (format : Format) (content : List ℕ) (shape : Shape) (pick : Pick) (state : State) → NamesIn format content shape → ((table : List (Option Segment)) → ¬ HoldsSlots content shape table)
    → ¬ FoundIn format content pick state
not-slots format content shape pick state names none found =
    let here = found-at format content shape pick state names found in
    none here.table here.holds.laid_out.in_slots

-- segments spell the commands of one list of groups at most
pub groups-same : (table : List (Option Segment)) (a b : List (List (List Taken))) → SpellGroups (segments_of table) a → SpellGroups (segments_of table) b
    → commands_in a ≡ commands_in b
groups-same table a b is_a is_b =
    sym (commands-all a) ∙ (ap commands_of (batches_same table (all_in a) (all_in b) (spell-all table a is_a) (spell-all table b is_b)) ∙ commands-all b)

-- the groups that were read of the segments of a table, and their commands by document
pub record Gathered (segments : List Segment) (lists : List (List Taken)) : Type 0 where
  pub groups : List (List (List Taken))
  pub spell : SpellGroups segments groups
  pub by : AreByDocument (commands_in groups) lists

pub gathered : (segments : List Segment) (lists : List (List Taken)) → ((groups : List (List (List Taken))) × SpellGroups segments groups × AreByDocument (commands_in groups) lists)
    → Gathered segments lists
gathered segments lists (groups, spell, by) = record { groups = groups; spell = spell; by = by }
