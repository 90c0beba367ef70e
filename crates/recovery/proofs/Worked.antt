-- What contents represent, computed in a small shape: zeros, a formatted device, the device after a first and a second
-- creation, and one on which the second one lies in a slot of its own, before the first.
use Rattle.std.proofs.Common.{◌≡◌, ◌<◌, Bool, true, ℕ, zero, suc, Option, Some, None, List, [], ◌∷◌, ◌++◌, get_or, refl, sym, ◌∙◌, ap, subst, lit<, lit≤, arith}
use Rattle.std.proofs.lemmas.Bool.{ne_eqb}
use Rattle.std.specs.Prelude.{replicate, slice_get, map, All, if◌then◌else◌}
use Rattle.std.proofs.lemmas.List.Elements.{All-cons, All-nil}
use Rattle.std.specs.Char.{encode_utf8}
use Rattle.std.specs.Str.{chars, is_utf8}
use Rattle.std.specs.Char.Utf16.{utf16_chars}
use Rattle.attributes.specs.Map.{empty, insert}
use Rattle.delta.specs.Operation.{insert_text}
use Rattle.revision.specs.Spellable.{IsSpellable, IsOperation, IsPair, IsValue}
use Rattle.revision.specs.Command.{Taken, IsTaken}
use Rattle.revision.specs.declared.step.Step.TheVariants.{Edits}
use Rattle.journal.specs.Spelling.{number, text16, text32}
use Rattle.journal.specs.BatchSpelling.{IsBatch, created_name, step_delta, entry, batch}
use Rattle.journal.specs.DeltaSpelling.{value, pairs, operation, delta}
use Rattle.revision.specs.State.{State, DocumentRecord, all_continue}
use Rattle.revision.specs.Invariants.{NamesDiffer}
use Rattle.history.specs.declared.pick.Pick.{Pick}
use Rattle.history.specs.Cell.{Pair, no_cells, cells_at, picked}
use Rattle.history.specs.Entries.{of_document}
use Rattle.history.specs.Found.{StandsFor, StandFor}
use Rattle.milestone.specs.OneCell.{HoldsPair}
use Rattle.recovery.specs.declared.shape.Shape.{Shape}
use Rattle.segments.specs.Slot.{Segment, HoldsSlot, HoldsSegment, number_of}
use Rattle.segments.specs.Numbers.{NumbersDiffer}
use Rattle.segments.specs.Table.{slot_bytes, slot_at}
use Rattle.recovery.specs.Shape.{superblock, layout_length, cells_place}
use Rattle.recovery.specs.Layout.{IsFormatted, HoldsCells, HoldsSlots, IsLaidOut}
use Rattle.recovery.specs.Found.{Found, limits_of, empty_state, commands_of}

-- 2 slots of 256 bytes, 2 documents with cells of 256: 1,600 bytes
abbrev pub small : Shape
small = record { slots = 2; slot = 256; docs = 2; cell = 256; sources = 4; keep = 2 }

small_length : layout_length small ≡ 1600
small_length = refl

pub zero_is_closed : ◌≡◌ {A = ℕ} 0 165 → ⊥
zero_is_closed e = absurd cc

-- what holds at each of two places
pub two : (P : ℕ → Type 0) → P 0 → P 1 → (k : ℕ) → k < 2 → P k
two P p0 p1 zero l = p0
two P p0 p1 (suc zero) l = p1
two P p0 p1 (suc (suc k)) l = absurd (omega arith)

-- the numbers of two slots differ, where they aren't one
pub two_differ : (a b : Option ℕ) → ((n : ℕ) → a ≡ Some n → b ≡ Some n → ⊥) → NumbersDiffer (a ∷ b ∷ [])
two_differ a b apart zero zero n one other = refl
two_differ a b apart zero (suc zero) n one other = absurd (apart n one other)
two_differ a b apart (suc zero) zero n one other = absurd (apart n other one)
two_differ a b apart (suc zero) (suc zero) n one other = refl
two_differ a b apart zero (suc (suc k)) n one other = absurd cc
two_differ a b apart (suc zero) (suc (suc k)) n one other = absurd cc
two_differ a b apart (suc (suc k)) other n one there = absurd cc

-- the slots of the small shape hold what each of them holds
pub slots_hold : (content : List ℕ) (first second : Option Segment) → HoldsSlot (slot_bytes 1088 256 content 0) first → HoldsSlot (slot_bytes 1088 256 content 1) second
    → NumbersDiffer (number_of first ∷ number_of second ∷ []) → HoldsSlots content small (first ∷ second ∷ [])
slots_hold content first second in_first in_second differ = record {
  count = refl;
  holds = record { each = two (λ s. HoldsSlot (slot_bytes 1088 256 content s) (slot_at (first ∷ second ∷ []) s)) in_first in_second; differ = differ };
}

-- no document has a cell
abbrev no_pairs : List Pair
no_pairs = no_cells ∷ no_cells ∷ []

-- no two of two documents have one name
names_differ : (first second : DocumentRecord) → (first.name ≡ second.name → ⊥) → NamesDiffer (first ∷ second ∷ [])
names_differ first second apart zero zero a b at_i at_j same = refl
names_differ first second apart (suc zero) (suc zero) a b at_i at_j same = refl
names_differ first second apart zero (suc zero) a b at_i at_j same =
    let is_a : first ≡ a = cc in
    let is_b : second ≡ b = cc in
    absurd (apart (ap (λ (d : DocumentRecord). d.name) is_a ∙ same ∙ sym (ap (λ (d : DocumentRecord). d.name) is_b)))
names_differ first second apart (suc zero) zero a b at_i at_j same =
    let is_a : second ≡ a = cc in
    let is_b : first ≡ b = cc in
    absurd (apart (ap (λ (d : DocumentRecord). d.name) is_b ∙ sym same ∙ sym (ap (λ (d : DocumentRecord). d.name) is_a)))
names_differ first second apart (suc (suc k)) j a b at_i at_j same = absurd cc
names_differ first second apart zero (suc (suc k)) a b at_i at_j same = absurd cc
names_differ first second apart (suc zero) (suc (suc k)) a b at_i at_j same = absurd cc

-- a command of another document isn't one of this document; and a document without a cell and without entries isn't there
pub of_another : (number : ℕ) (taken : Taken) (others : List Taken) → (taken.document ≡ number → ⊥) → of_document number (taken ∷ others) ≡ of_document number others
of_another number taken others apart =
    ap (λ (b : Bool). if b then taken ∷ of_document number others else of_document number others) (ne_eqb taken.document number apart)

pub stands_nowhere : (number : ℕ) (entries : List Taken) → of_document number entries ≡ [] → StandsFor (limits_of small) None (of_document number entries) None
stands_nowhere number entries is = subst (λ (l : List Taken). StandsFor (limits_of small) None l None) (sym is) (record { cell_keeps = tt; continue = refl; is = refl })

-- zeros have no superblock, so they represent nothing
abbrev zeros : List ℕ
zeros = replicate 1600 0

pub zeros_unformatted : IsFormatted zeros → ⊥
zeros_unformatted is = zero_is_closed is.gate

pub zeros_not_found : (pick : Pick) (state : State) → Found zeros pick state → ⊥
zeros_not_found pick state found = zeros_unformatted found.holds.laid_out.names.formatted

-- a formatted device represents no documents
abbrev formatted : List ℕ
formatted = 165 ∷ superblock small ++ replicate 1567 0

formatted_cells : HoldsCells formatted small no_pairs
formatted_cells = record {
  count = refl;
  each = two (λ number. HoldsPair (cells_place small number) 256 number formatted (cells_at no_pairs number))
      (record { first = zero_is_closed; second = zero_is_closed }) (record { first = zero_is_closed; second = zero_is_closed });
}

pub formatted_laid_out : IsLaidOut formatted small no_pairs (None ∷ None ∷ [])
formatted_laid_out = record {
  names = record { formatted = record { long = lit≤ tt; gate = refl }; named = refl; in_range = refl; long = lit≤ tt };
  in_cells = formatted_cells;
  in_slots = slots_hold formatted None None zero_is_closed zero_is_closed (two_differ None None (λ n is other. absurd cc));
}

none_stand : (pick : Pick) (number : ℕ) → StandsFor (limits_of small) (picked pick (cells_at no_pairs number)) [] (slice_get (empty_state small).documents number)
none_stand pick zero = record { cell_keeps = tt; continue = refl; is = refl }
none_stand pick (suc zero) = record { cell_keeps = tt; continue = refl; is = refl }
none_stand pick (suc (suc k)) = record { cell_keeps = tt; continue = refl; is = refl }

pub formatted_found : (pick : Pick) → Found formatted pick (empty_state small)
formatted_found pick = record {
  shape = small;
  cells = no_pairs;
  table = None ∷ None ∷ [];
  batches = [];
  holds = record { laid_out = formatted_laid_out; spell = record { spelled = refl; each = All-nil IsBatch }; entries = tt };
  stand = record { same_limits = refl; count = lit≤ tt; each = none_stand pick; names = λ i j a b at_i at_j same. absurd cc };
}

-- a creation of this document, in order of creation, with this text of one letter, by the source "a"
abbrev creation : ℕ → ℕ → ℕ → Taken
creation document name letter = record {
  document = document;
  name = Some (name ∷ []);
  revision = 1;
  source = 97 ∷ [];
  number = 1;
  step = Edits;
  delta = insert_text (letter ∷ []) empty ∷ [];
}

-- its batch of 45 bytes
abbrev spelling : ℕ → ℕ → ℕ → List ℕ
spelling document name letter =
    1 ∷ 0 ∷ 0 ∷ 0
    ∷ 1 ∷ document ∷ 0 ∷ 0 ∷ 0 ∷ 1 ∷ 0 ∷ 0 ∷ 0 ∷ 0 ∷ 0 ∷ 0 ∷ 0
    ∷ 1 ∷ 0 ∷ 97 ∷ 1 ∷ 0 ∷ 0 ∷ 0 ∷ 0 ∷ 0 ∷ 0 ∷ 0
    ∷ 1 ∷ 0 ∷ name
    ∷ 1 ∷ 0 ∷ 0 ∷ 0 ∷ 1 ∷ 1 ∷ 0 ∷ 0 ∷ 0 ∷ letter ∷ 0 ∷ 0 ∷ 0 ∷ 0 ∷ []

spelled_first : batch (creation 0 100 122 ∷ []) ≡ spelling 0 100 122
unfolding number text16 text32 value pairs operation delta created_name step_delta entry batch utf16_chars encode_utf8
spelled_first = refl

spelled_second : batch (creation 1 101 120 ∷ []) ≡ spelling 1 101 120
unfolding number text16 text32 value pairs operation delta created_name step_delta entry batch utf16_chars encode_utf8
spelled_second = refl

-- an open record of a body of 45 bytes
abbrev recorded : List ℕ → List ℕ
recorded body = 165 ∷ 45 ∷ 0 ∷ 0 ∷ 0 ∷ body

-- the device before the first slot's area, with the slot open as segment 1
abbrev before_area : List ℕ
before_area = 165 ∷ superblock small ++ (replicate 1055 0 ++ (165 ∷ 1 ∷ replicate 7 0))

-- after the first creation, of "d" with "z"
abbrev created : List ℕ
created = before_area ++ (recorded (spelling 0 100 122) ++ replicate 453 0)

abbrev first_segment : Segment
first_segment = record { number = 1; bodies = spelling 0 100 122 ∷ [] }

pub created_held : HoldsSegment (slot_bytes 1088 256 created 0) first_segment
created_held = record {
  gate = refl;
  number = refl;
  from_one = lit≤ tt;
  in_range = lit< tt;
  bodies = record { gate = 0; behind = replicate 196 0; split = refl; closed = zero_is_closed; each = (record { some = lit< tt; short = lit< tt }, tt) };
}

created_cells : HoldsCells created small no_pairs
created_cells = record {
  count = refl;
  each = two (λ number. HoldsPair (cells_place small number) 256 number created (cells_at no_pairs number))
      (record { first = zero_is_closed; second = zero_is_closed }) (record { first = zero_is_closed; second = zero_is_closed });
}

pub created_laid_out : IsLaidOut created small no_pairs (Some first_segment ∷ None ∷ [])
created_laid_out = record {
  names = record { formatted = record { long = lit≤ tt; gate = refl }; named = refl; in_range = refl; long = lit≤ tt };
  in_cells = created_cells;
  in_slots = slots_hold created (Some first_segment) None created_held zero_is_closed (two_differ (Some 1) None (λ n is other. absurd cc));
}

-- the record of a document of one letter that a source made
abbrev record_with : ℕ → ℕ → DocumentRecord
record_with name letter = record {
  name = name ∷ [];
  past = record {
    floor = 0;
    content = record { units = []; live = true };
    sources = empty;
    changes = record { source = 97 ∷ []; number = 1; delta = insert_text (letter ∷ []) empty ∷ [] } ∷ [];
  };
}

abbrev with_first : State
with_first = record { limits = limits_of small; documents = record_with 100 122 ∷ [] }

is_batch : (document name letter : ℕ) → IsTaken (creation document name letter) → IsBatch (creation document name letter ∷ [])
is_batch document name letter is = record { some = lit≤ tt; short = lit< tt; taken = All-cons IsTaken (creation document name letter) [] is (All-nil IsTaken) }

pub spellable_first : IsSpellable (insert_text (122 ∷ []) empty ∷ [])
unfolding is_utf8 chars utf16_chars encode_utf8
spellable_first = record {
  normal = refl;
  bounded = record { base = lit≤ tt; out = lit≤ tt };
  count = lit< tt;
  each =
      All-cons IsOperation (insert_text (122 ∷ []) empty) []
      (record { back = refl; valid = refl; short = lit< tt }, record { count = lit< tt; each = All-nil (IsPair IsValue) })
      (All-nil IsOperation);
}

taken_first : IsTaken (creation 0 100 122)
taken_first = record { document = lit< tt; source = refl; kind = refl; delta = spellable_first }

first_continues : all_continue (limits_of small) None (creation 0 100 122 ∷ []) ≡ true
unfolding utf16_chars encode_utf8 insert
first_continues = refl

first_stands : (pick : Pick) (number : ℕ) → StandsFor (limits_of small) (picked pick (cells_at no_pairs number)) (of_document number (creation 0 100 122 ∷ [])) (slice_get with_first.documents number)
first_stands pick zero = record { cell_keeps = tt; continue = first_continues; is = refl }
first_stands pick (suc zero) = record { cell_keeps = tt; continue = refl; is = refl }
first_stands pick (suc (suc k)) = stands_nowhere (suc (suc k)) (creation 0 100 122 ∷ []) (of_another (suc (suc k)) (creation 0 100 122) [] (λ e. absurd (omega (arith, e))))

pub one_name : (found : DocumentRecord) → NamesDiffer (found ∷ [])
one_name found zero zero a b at_i at_j same = refl
one_name found (suc i) j a b at_i at_j same = absurd cc
one_name found zero (suc j) a b at_i at_j same = absurd cc

pub created_found : (pick : Pick) → Found created pick with_first
created_found pick = record {
  shape = small;
  cells = no_pairs;
  table = Some first_segment ∷ None ∷ [];
  batches = (creation 0 100 122 ∷ []) ∷ [];
  holds = record {
    laid_out = created_laid_out;
    spell = record {
      spelled = ap (λ (b : List ℕ). b ∷ []) (sym spelled_first);
      each = All-cons IsBatch (creation 0 100 122 ∷ []) [] (is_batch 0 100 122 taken_first) (All-nil IsBatch);
    };
    entries = tt;
  };
  stand = record { same_limits = refl; count = lit≤ tt; each = first_stands pick; names = one_name (record_with 100 122) };
}

-- after the second, of "e" with "x", behind it
abbrev created_twice : List ℕ
created_twice = before_area ++ (recorded (spelling 0 100 122) ++ (recorded (spelling 1 101 120) ++ replicate 403 0))

abbrev second_segment : Segment
second_segment = record { number = 1; bodies = spelling 0 100 122 ∷ spelling 1 101 120 ∷ [] }

pub created_twice_held : HoldsSegment (slot_bytes 1088 256 created_twice 0) second_segment
created_twice_held = record {
  gate = refl;
  number = refl;
  from_one = lit≤ tt;
  in_range = lit< tt;
  bodies = record {
    gate = 0;
    behind = replicate 146 0;
    split = refl;
    closed = zero_is_closed;
    each = (record { some = lit< tt; short = lit< tt }, (record { some = lit< tt; short = lit< tt }, tt));
  };
}

created_twice_cells : HoldsCells created_twice small no_pairs
created_twice_cells = record {
  count = refl;
  each = two (λ number. HoldsPair (cells_place small number) 256 number created_twice (cells_at no_pairs number))
      (record { first = zero_is_closed; second = zero_is_closed }) (record { first = zero_is_closed; second = zero_is_closed });
}

pub created_twice_laid_out : IsLaidOut created_twice small no_pairs (Some second_segment ∷ None ∷ [])
created_twice_laid_out = record {
  names = record { formatted = record { long = lit≤ tt; gate = refl }; named = refl; in_range = refl; long = lit≤ tt };
  in_cells = created_twice_cells;
  in_slots = slots_hold created_twice (Some second_segment) None created_twice_held zero_is_closed (two_differ (Some 1) None (λ n is other. absurd cc));
}

abbrev with_both : State
with_both = record { limits = limits_of small; documents = record_with 100 122 ∷ record_with 101 120 ∷ [] }

spellable_second : IsSpellable (insert_text (120 ∷ []) empty ∷ [])
unfolding is_utf8 chars utf16_chars encode_utf8
spellable_second = record {
  normal = refl;
  bounded = record { base = lit≤ tt; out = lit≤ tt };
  count = lit< tt;
  each =
      All-cons IsOperation (insert_text (120 ∷ []) empty) []
      (record { back = refl; valid = refl; short = lit< tt }, record { count = lit< tt; each = All-nil (IsPair IsValue) })
      (All-nil IsOperation);
}

taken_second : IsTaken (creation 1 101 120)
taken_second = record { document = lit< tt; source = refl; kind = refl; delta = spellable_second }

abbrev both : List Taken
both = creation 0 100 122 ∷ creation 1 101 120 ∷ []

second_continues : all_continue (limits_of small) None (creation 1 101 120 ∷ []) ≡ true
unfolding utf16_chars encode_utf8 insert
second_continues = refl

both_stands : (pick : Pick) (number : ℕ) → StandsFor (limits_of small) (picked pick (cells_at no_pairs number)) (of_document number both) (slice_get with_both.documents number)
both_stands pick zero = record { cell_keeps = tt; continue = first_continues; is = refl }
both_stands pick (suc zero) = record { cell_keeps = tt; continue = second_continues; is = refl }
both_stands pick (suc (suc k)) =
    stands_nowhere (suc (suc k)) both
    (of_another (suc (suc k)) (creation 0 100 122) (creation 1 101 120 ∷ []) (λ e. absurd (omega (arith, e)))
    ∙ of_another (suc (suc k)) (creation 1 101 120) [] (λ e. absurd (omega (arith, e))))

-- the two batches, whichever slots they lie in
abbrev both_batches : List (List Taken)
both_batches = (creation 0 100 122 ∷ []) ∷ (creation 1 101 120 ∷ []) ∷ []

both_spelled : spelling 0 100 122 ∷ spelling 1 101 120 ∷ [] ≡ map batch both_batches
both_spelled = ap (λ (b : List ℕ). b ∷ spelling 1 101 120 ∷ []) (sym spelled_first) ∙ ap (λ (b : List ℕ). batch (creation 0 100 122 ∷ []) ∷ b ∷ []) (sym spelled_second)

both_are : All IsBatch both_batches
both_are =
    All-cons IsBatch (creation 0 100 122 ∷ []) ((creation 1 101 120 ∷ []) ∷ []) (is_batch 0 100 122 taken_first)
    (All-cons IsBatch (creation 1 101 120 ∷ []) [] (is_batch 1 101 120 taken_second) (All-nil IsBatch))

both_stand : (pick : Pick) → StandFor (limits_of small) no_pairs (commands_of both_batches) pick with_both
both_stand pick = record {
  same_limits = refl;
  count = lit≤ tt;
  each = both_stands pick;
  names = names_differ (record_with 100 122) (record_with 101 120) (λ same. let first_letter : 100 ≡ 101 = ap (λ (l : List ℕ). get_or l 0 0) same in absurd (omega (arith, first_letter)));
}

pub created_twice_found : (pick : Pick) → Found created_twice pick with_both
created_twice_found pick = record {
  shape = small;
  cells = no_pairs;
  table = Some second_segment ∷ None ∷ [];
  batches = both_batches;
  holds = record { laid_out = created_twice_laid_out; spell = record { spelled = both_spelled; each = both_are }; entries = tt };
  stand = both_stand pick;
}

-- the second one in the first slot, as segment 2, and the first one in the second slot, as segment 1
abbrev turned : List ℕ
turned =
    165 ∷ superblock small ++ (replicate 1055 0
    ++ ((165 ∷ 2 ∷ replicate 7 0) ++ (recorded (spelling 1 101 120) ++ (replicate 197 0
    ++ ((165 ∷ 1 ∷ replicate 7 0) ++ (recorded (spelling 0 100 122) ++ replicate 197 0))))))

abbrev newer_segment : Segment
newer_segment = record { number = 2; bodies = spelling 1 101 120 ∷ [] }

pub turned_newer : HoldsSegment (slot_bytes 1088 256 turned 0) newer_segment
turned_newer = record {
  gate = refl;
  number = refl;
  from_one = lit≤ tt;
  in_range = lit< tt;
  bodies = record { gate = 0; behind = replicate 196 0; split = refl; closed = zero_is_closed; each = (record { some = lit< tt; short = lit< tt }, tt) };
}

pub turned_older : HoldsSegment (slot_bytes 1088 256 turned 1) first_segment
turned_older = record {
  gate = refl;
  number = refl;
  from_one = lit≤ tt;
  in_range = lit< tt;
  bodies = record { gate = 0; behind = replicate 196 0; split = refl; closed = zero_is_closed; each = (record { some = lit< tt; short = lit< tt }, tt) };
}

turned_cells : HoldsCells turned small no_pairs
turned_cells = record {
  count = refl;
  each = two (λ number. HoldsPair (cells_place small number) 256 number turned (cells_at no_pairs number))
      (record { first = zero_is_closed; second = zero_is_closed }) (record { first = zero_is_closed; second = zero_is_closed });
}

-- the batches count in order of the segments' numbers
pub turned_found : (pick : Pick) → Found turned pick with_both
turned_found pick = record {
  shape = small;
  cells = no_pairs;
  table = Some newer_segment ∷ Some first_segment ∷ [];
  batches = both_batches;
  holds = record {
    laid_out = record {
      names = record { formatted = record { long = lit≤ tt; gate = refl }; named = refl; in_range = refl; long = lit≤ tt };
      in_cells = turned_cells;
      in_slots = slots_hold turned (Some newer_segment) (Some first_segment) turned_newer turned_older (two_differ (Some 2) (Some 1) (λ n is other. absurd cc));
    };
    spell = record { spelled = both_spelled; each = both_are };
    entries = tt;
  };
  stand = both_stand pick;
}
