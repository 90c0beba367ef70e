-- What a content with two open cells represents by each pick, computed. The document "d" was created with "z", then "x" was appended:
-- its first cell has it at revision 1, its second one at revision 2, and the journal holds the command that made revision 2.
use Rattle.std.proofs.Common.{◌≡◌, ℕ, zero, suc, Some, None, List, [], ◌∷◌, ◌++◌, refl, sym, ap, true, lit<, lit≤, arith}
use Rattle.std.specs.Prelude.{replicate, slice_get}
use Rattle.std.proofs.lemmas.List.Elements.{All-cons, All-nil}
use Rattle.std.specs.Char.{encode_utf8}
use Rattle.std.specs.Str.{chars, is_utf8}
use Rattle.std.specs.Char.Utf16.{utf16_chars}
use Rattle.attributes.specs.Attributes.{changed_by}
use Rattle.attributes.specs.Map.{empty, insert}
use Rattle.delta.specs.Element.{letters}
use Rattle.delta.specs.Operation.{insert_text, retain}
use Rattle.revision.specs.Command.{Taken, IsTaken}
use Rattle.revision.specs.declared.step.Step.TheVariants.{Edits}
use Rattle.revision.specs.Sources.{with_taken}
use Rattle.revision.specs.Spellable.{IsSpellable, IsOperation, IsPair, IsValue, IsNewValue}
use Rattle.revision.specs.State.{State, DocumentRecord, all_continue}
use Rattle.journal.specs.Area.{open_record}
use Rattle.journal.specs.Spelling.{number, text16, text32}
use Rattle.journal.specs.DeltaSpelling.{value, new_value, pair, pairs, operation, delta}
use Rattle.journal.specs.BatchSpelling as batches
use Rattle.history.specs.declared.pick.Pick.TheVariants.{Newer, Older}
use Rattle.history.specs.Cell.{Cell, Pair, no_cells, cells_at, picked, CellKeeps}
use Rattle.history.specs.Entries.{of_document}
use Rattle.history.specs.Found.{StandsFor, started}
use Rattle.milestone.specs.CellSpelling.{IsCell, cell_body, cell_body_in, window, source, sources}
use Rattle.milestone.specs.OneCell.{HoldsPair, HoldsOpenCell, bytes_at}
use Rattle.segments.specs.Slot.{Segment, HoldsSegment}
use Rattle.segments.specs.Table.{slot_bytes}
use Rattle.recovery.specs.Shape.{superblock, cells_place}
use Rattle.recovery.specs.Layout.{HoldsCells, IsLaidOut}
use Rattle.recovery.specs.Found.{Found, HoldsParts, limits_of}
use Rattle.recovery.proofs.Worked.{small, zero_is_closed, two, two_differ, slots_hold, one_name, spellable_first, of_another, stands_nowhere}

abbrev ann : List ℕ
ann = 97 ∷ []

-- the document at a revision, which ann's command of that number made, with this text
abbrev cell_at : ℕ → List ℕ → Cell
cell_at revision text = record { name = 100 ∷ []; revision = revision; content = record { units = letters text empty; live = true }; sources = with_taken ann revision revision empty }

abbrev first : Cell
first = cell_at 1 (122 ∷ [])

abbrev second : Cell
second = cell_at 2 (122 ∷ 120 ∷ [])

abbrev pair_of_d : Pair
pair_of_d = (Some first, Some second)

abbrev cells : List Pair
cells = pair_of_d ∷ no_cells ∷ []

-- their bodies, of 54 bytes and 55
abbrev first_spelling : List ℕ
first_spelling =
    0 ∷ 0 ∷ 0 ∷ 0 ∷ 1 ∷ 0 ∷ 100 ∷ 1 ∷ 0 ∷ 0 ∷ 0 ∷ 0 ∷ 0 ∷ 0 ∷ 0 ∷ 1
    ∷ 1 ∷ 0 ∷ 0 ∷ 0 ∷ 1 ∷ 1 ∷ 0 ∷ 0 ∷ 0 ∷ 122 ∷ 0 ∷ 0 ∷ 0 ∷ 0
    ∷ 1 ∷ 0 ∷ 0 ∷ 0 ∷ 1 ∷ 0 ∷ 97 ∷ 1 ∷ 0 ∷ 0 ∷ 0 ∷ 0 ∷ 0 ∷ 0 ∷ 0 ∷ 1 ∷ 1 ∷ 0 ∷ 0 ∷ 0 ∷ 0 ∷ 0 ∷ 0 ∷ 0 ∷ []

abbrev second_spelling : List ℕ
second_spelling =
    0 ∷ 0 ∷ 0 ∷ 0 ∷ 1 ∷ 0 ∷ 100 ∷ 2 ∷ 0 ∷ 0 ∷ 0 ∷ 0 ∷ 0 ∷ 0 ∷ 0 ∷ 1
    ∷ 1 ∷ 0 ∷ 0 ∷ 0 ∷ 1 ∷ 2 ∷ 0 ∷ 0 ∷ 0 ∷ 122 ∷ 120 ∷ 0 ∷ 0 ∷ 0 ∷ 0
    ∷ 1 ∷ 0 ∷ 0 ∷ 0 ∷ 1 ∷ 0 ∷ 97 ∷ 2 ∷ 0 ∷ 0 ∷ 0 ∷ 0 ∷ 0 ∷ 0 ∷ 0 ∷ 1 ∷ 2 ∷ 0 ∷ 0 ∷ 0 ∷ 0 ∷ 0 ∷ 0 ∷ 0 ∷ []

first_spelled : cell_body 0 first ≡ first_spelling
unfolding number text16 text32 value pairs operation delta window source sources cell_body_in utf16_chars encode_utf8 insert
first_spelled = refl

second_spelled : cell_body 0 second ≡ second_spelling
unfolding number text16 text32 value pairs operation delta window source sources cell_body_in utf16_chars encode_utf8 insert
second_spelled = refl

-- the command that appends "x" to "z", and its batch of 55 bytes
abbrev append_x : Taken
append_x = record { document = 0; name = None; revision = 2; source = ann; number = 2; step = Edits; delta = retain 1 empty ∷ insert_text (120 ∷ []) empty ∷ [] }

abbrev batch_spelling : List ℕ
batch_spelling =
    1 ∷ 0 ∷ 0 ∷ 0
    ∷ 2 ∷ 0 ∷ 0 ∷ 0 ∷ 0 ∷ 2 ∷ 0 ∷ 0 ∷ 0 ∷ 0 ∷ 0 ∷ 0 ∷ 0
    ∷ 1 ∷ 0 ∷ 97 ∷ 2 ∷ 0 ∷ 0 ∷ 0 ∷ 0 ∷ 0 ∷ 0 ∷ 0
    ∷ 2 ∷ 0 ∷ 0 ∷ 0 ∷ 3 ∷ 1 ∷ 0 ∷ 0 ∷ 0 ∷ 0 ∷ 0 ∷ 0 ∷ 0 ∷ 0 ∷ 0 ∷ 0 ∷ 0
    ∷ 1 ∷ 1 ∷ 0 ∷ 0 ∷ 0 ∷ 120 ∷ 0 ∷ 0 ∷ 0 ∷ 0 ∷ []

batch_spelled : batches.batch (append_x ∷ []) ≡ batch_spelling
unfolding number text16 text32 value new_value pair pairs operation delta batches.created_name batches.step_delta batches.entry batches.batch utf16_chars encode_utf8
batch_spelled = refl

abbrev segment : Segment
segment = record { number = 1; bodies = batch_spelling ∷ [] }

-- the device: the superblock, the two cells of "d", those of a second document, which are closed, and the slots
abbrev with_cells : List ℕ
with_cells =
    165 ∷ superblock small ++ (replicate 31 0 ++ ((165 ∷ 54 ∷ 0 ∷ 0 ∷ 0 ∷ first_spelling) ++ (replicate 197 0
    ++ ((165 ∷ 55 ∷ 0 ∷ 0 ∷ 0 ∷ second_spelling) ++ (replicate 196 0 ++ (replicate 512 0
    ++ ((165 ∷ 1 ∷ replicate 7 0) ++ ((165 ∷ 55 ∷ 0 ∷ 0 ∷ 0 ∷ batch_spelling) ++ replicate 443 0))))))))

second_spellable : IsSpellable (insert_text (122 ∷ 120 ∷ []) empty ∷ [])
unfolding is_utf8 chars utf16_chars encode_utf8
second_spellable = record {
  normal = refl;
  bounded = record { base = lit≤ tt; out = lit≤ tt };
  count = lit< tt;
  each =
      All-cons IsOperation (insert_text (122 ∷ 120 ∷ []) empty) []
      (record { back = refl; valid = refl; short = lit< tt }, record { count = lit< tt; each = All-nil (IsPair IsValue) })
      (All-nil IsOperation);
}

first_is : IsCell 0 first
unfolding insert
first_is = record {
  document = lit< tt;
  milestone = record {
    name = refl;
    first = lit≤ tt;
    last = lit≤ tt;
    content = refl;
    sources = refl;
    named = refl;
  };
  content = spellable_first;
  count = lit< tt;
  mark = refl;
  windows = refl;
}

second_is : IsCell 0 second
unfolding insert
second_is = record {
  document = lit< tt;
  milestone = record {
    name = refl;
    first = lit≤ tt;
    last = lit≤ tt;
    content = refl;
    sources = refl;
    named = refl;
  };
  content = second_spellable;
  count = lit< tt;
  mark = refl;
  windows = refl;
}

first_held : HoldsOpenCell 0 (bytes_at 64 256 with_cells) first
first_held = record { is = first_is; rest = replicate 197 0; split = ap (λ (b : List ℕ). open_record b ++ replicate 197 0) (sym first_spelled) }

second_held : HoldsOpenCell 0 (bytes_at 320 256 with_cells) second
second_held = record { is = second_is; rest = replicate 196 0; split = ap (λ (b : List ℕ). open_record b ++ replicate 196 0) (sym second_spelled) }

cells_held : HoldsCells with_cells small cells
cells_held = record {
  count = refl;
  each = two (λ number. HoldsPair (cells_place small number) 256 number with_cells (cells_at cells number))
      (record { first = first_held; second = second_held }) (record { first = zero_is_closed; second = zero_is_closed });
}

segment_held : HoldsSegment (slot_bytes 1088 256 with_cells 0) segment
segment_held = record {
  gate = refl;
  number = refl;
  from_one = lit≤ tt;
  in_range = lit< tt;
  bodies = record { gate = 0; behind = replicate 186 0; split = refl; closed = zero_is_closed; each = (record { some = lit< tt; short = lit< tt }, tt) };
}

laid_out : IsLaidOut with_cells small cells (Some segment ∷ None ∷ [])
laid_out = record {
  names = record { formatted = record { long = lit≤ tt; gate = refl }; named = refl; in_range = refl; long = lit≤ tt };
  in_cells = cells_held;
  in_slots = slots_hold with_cells (Some segment) None segment_held zero_is_closed (two_differ (Some 1) None (λ n is other. absurd cc));
}

append_spellable : IsSpellable append_x.delta
unfolding is_utf8 chars utf16_chars encode_utf8
append_spellable = record {
  normal = refl;
  bounded = record { base = lit≤ tt; out = lit≤ tt };
  count = lit< tt;
  each =
      All-cons IsOperation (retain 1 empty) (insert_text (120 ∷ []) empty ∷ []) (lit< tt, record { count = lit< tt; each = All-nil (IsPair IsNewValue) })
      (All-cons IsOperation (insert_text (120 ∷ []) empty) []
      (record { back = refl; valid = refl; short = lit< tt }, record { count = lit< tt; each = All-nil (IsPair IsValue) })
      (All-nil IsOperation));
}

append_taken : IsTaken append_x
append_taken = record { document = lit< tt; source = refl; kind = refl; delta = append_spellable }

append_is_batch : batches.IsBatch (append_x ∷ [])
append_is_batch = record { some = lit≤ tt; short = lit< tt; taken = All-cons IsTaken append_x [] append_taken (All-nil IsTaken) }

parts : HoldsParts with_cells small cells (Some segment ∷ None ∷ []) ((append_x ∷ []) ∷ [])
parts = record {
  laid_out = laid_out;
  spell = record {
    spelled = ap (λ (b : List ℕ). b ∷ []) (sym batch_spelled);
    each = All-cons batches.IsBatch (append_x ∷ []) [] append_is_batch (All-nil batches.IsBatch);
  };
  entries = tt;
}

-- by the newer cell: the document at revision 2, whose floor that is
abbrev by_newer : DocumentRecord
by_newer = record { name = 100 ∷ []; past = record { floor = 2; content = second.content; sources = second.sources; changes = [] } }

abbrev newer : State
newer = record { limits = limits_of small; documents = by_newer ∷ [] }

newer_keeps : CellKeeps (limits_of small) second
unfolding insert
newer_keeps = record { first = lit≤ tt; last = lit≤ tt; count = lit≤ tt; sources = refl; content = refl; mark = refl; weight = lit≤ tt }

newer_stands : (number : ℕ) → StandsFor (limits_of small) (picked Newer (cells_at cells number)) (of_document number (append_x ∷ [])) (slice_get newer.documents number)
newer_stands zero = record { cell_keeps = newer_keeps; continue = refl; is = refl }
newer_stands (suc zero) = record { cell_keeps = tt; continue = refl; is = refl }
newer_stands (suc (suc k)) = stands_nowhere (suc (suc k)) (append_x ∷ []) (of_another (suc (suc k)) append_x [] (λ e. absurd (omega (arith, e))))

pub newer_found : Found with_cells Newer newer
newer_found = record {
  shape = small;
  cells = cells;
  table = Some segment ∷ None ∷ [];
  batches = (append_x ∷ []) ∷ [];
  holds = parts;
  stand = record { same_limits = refl; count = lit≤ tt; each = newer_stands; names = one_name by_newer };
}

-- by the older one: the document at revision 1, and the command on it
abbrev by_older : DocumentRecord
by_older = record {
  name = 100 ∷ [];
  past = record { floor = 1; content = first.content; sources = first.sources; changes = record { source = ann; number = 2; delta = append_x.delta } ∷ [] };
}

abbrev older : State
older = record { limits = limits_of small; documents = by_older ∷ [] }

older_keeps : CellKeeps (limits_of small) first
unfolding insert
older_keeps = record { first = lit≤ tt; last = lit≤ tt; count = lit≤ tt; sources = refl; content = refl; mark = refl; weight = lit≤ tt }

older_continues : all_continue (limits_of small) (started (Some first)) (append_x ∷ []) ≡ true
unfolding utf16_chars encode_utf8 changed_by insert
older_continues = refl

older_stands : (number : ℕ) → StandsFor (limits_of small) (picked Older (cells_at cells number)) (of_document number (append_x ∷ [])) (slice_get older.documents number)
older_stands zero = record { cell_keeps = older_keeps; continue = older_continues; is = refl }
older_stands (suc zero) = record { cell_keeps = tt; continue = refl; is = refl }
older_stands (suc (suc k)) = stands_nowhere (suc (suc k)) (append_x ∷ []) (of_another (suc (suc k)) append_x [] (λ e. absurd (omega (arith, e))))

pub older_found : Found with_cells Older older
older_found = record {
  shape = small;
  cells = cells;
  table = Some segment ∷ None ∷ [];
  batches = (append_x ∷ []) ∷ [];
  holds = parts;
  stand = record { same_limits = refl; count = lit≤ tt; each = older_stands; names = one_name by_older };
}
