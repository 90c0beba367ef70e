-- Batches spelled out. The first has 45 bytes: the source "a" creates the document "d" with the text "z".
use Rattle.std.proofs.Common.{◌≡◌, Some, None, [], ◌∷◌, refl}
use Rattle.attributes.specs.Map.{empty}
use Rattle.delta.specs.Operation.{insert_text, retain}
use Rattle.revision.specs.Command.{Taken}
use Rattle.revision.specs.declared.step.Step.TheVariants.{Edits, Deletes, Revives}
use Rattle.journal.specs.Spelling.{number, text16, text32}
use Rattle.journal.specs.BatchSpelling.{created_name, step_delta, entry, batch}
use Rattle.journal.specs.DeltaSpelling.{value, new_value, pairs, operation, delta}
use Rattle.std.specs.Char.{encode_utf8}
use Rattle.std.specs.Char.Utf16.{utf16_chars}

abbrev creation : Taken
creation = record {
  document = 0;
  name = Some (100 ∷ []);
  revision = 1;
  source = 97 ∷ [];
  number = 1;
  step = Edits;
  delta = insert_text (122 ∷ []) empty ∷ [];
}

-- the count; the tag, the document, the revision; the source, its number; the name; the delta
pub batch-of_creation : batch (creation ∷ []) ≡
    1 ∷ 0 ∷ 0 ∷ 0
    ∷ 1 ∷ 0 ∷ 0 ∷ 0 ∷ 0 ∷ 1 ∷ 0 ∷ 0 ∷ 0 ∷ 0 ∷ 0 ∷ 0 ∷ 0
    ∷ 1 ∷ 0 ∷ 97 ∷ 1 ∷ 0 ∷ 0 ∷ 0 ∷ 0 ∷ 0 ∷ 0 ∷ 0
    ∷ 1 ∷ 0 ∷ 100
    ∷ 1 ∷ 0 ∷ 0 ∷ 0 ∷ 1 ∷ 1 ∷ 0 ∷ 0 ∷ 0 ∷ 122 ∷ 0 ∷ 0 ∷ 0 ∷ 0 ∷ []
unfolding number text16 text32 value pairs operation delta created_name step_delta entry batch utf16_chars encode_utf8
batch-of_creation = refl

-- the second has 55 bytes: the source's number 2 inserts "x" behind it, and makes revision 2
abbrev edit : Taken
edit = record {
  document = 0;
  name = None;
  revision = 2;
  source = 97 ∷ [];
  number = 2;
  step = Edits;
  delta = retain 1 empty ∷ insert_text (120 ∷ []) empty ∷ [];
}

-- the count; the tag, the document, the revision; the source, its number; the delta's count, its retain, its insert
pub batch-of_edit : batch (edit ∷ []) ≡
    1 ∷ 0 ∷ 0 ∷ 0
    ∷ 2 ∷ 0 ∷ 0 ∷ 0 ∷ 0 ∷ 2 ∷ 0 ∷ 0 ∷ 0 ∷ 0 ∷ 0 ∷ 0 ∷ 0
    ∷ 1 ∷ 0 ∷ 97 ∷ 2 ∷ 0 ∷ 0 ∷ 0 ∷ 0 ∷ 0 ∷ 0 ∷ 0
    ∷ 2 ∷ 0 ∷ 0 ∷ 0
    ∷ 3 ∷ 1 ∷ 0 ∷ 0 ∷ 0 ∷ 0 ∷ 0 ∷ 0 ∷ 0 ∷ 0 ∷ 0 ∷ 0 ∷ 0
    ∷ 1 ∷ 1 ∷ 0 ∷ 0 ∷ 0 ∷ 120 ∷ 0 ∷ 0 ∷ 0 ∷ 0 ∷ []
unfolding number text16 text32 value new_value pairs operation delta created_name step_delta entry batch utf16_chars encode_utf8
batch-of_edit = refl

-- A deletion has no delta: the source's number 3 makes revision 3, in 24 bytes.
abbrev deletion : Taken
deletion = record {
  document = 0;
  name = None;
  revision = 3;
  source = 97 ∷ [];
  number = 3;
  step = Deletes;
  delta = [];
}

pub entry-of_deletion : entry deletion ≡
    3 ∷ 0 ∷ 0 ∷ 0 ∷ 0 ∷ 3 ∷ 0 ∷ 0 ∷ 0 ∷ 0 ∷ 0 ∷ 0 ∷ 0
    ∷ 1 ∷ 0 ∷ 97 ∷ 3 ∷ 0 ∷ 0 ∷ 0 ∷ 0 ∷ 0 ∷ 0 ∷ 0 ∷ []
unfolding number text16 created_name step_delta entry
entry-of_deletion = refl

-- its number 4 creates the document again with the text "n", in 38 bytes
abbrev revival : Taken
revival = record {
  document = 0;
  name = None;
  revision = 4;
  source = 97 ∷ [];
  number = 4;
  step = Revives;
  delta = insert_text (110 ∷ []) empty ∷ [];
}

pub entry-of_revival : entry revival ≡
    4 ∷ 0 ∷ 0 ∷ 0 ∷ 0 ∷ 4 ∷ 0 ∷ 0 ∷ 0 ∷ 0 ∷ 0 ∷ 0 ∷ 0
    ∷ 1 ∷ 0 ∷ 97 ∷ 4 ∷ 0 ∷ 0 ∷ 0 ∷ 0 ∷ 0 ∷ 0 ∷ 0
    ∷ 1 ∷ 0 ∷ 0 ∷ 0 ∷ 1 ∷ 1 ∷ 0 ∷ 0 ∷ 0 ∷ 110 ∷ 0 ∷ 0 ∷ 0 ∷ 0 ∷ []
unfolding number text16 text32 value pairs operation delta created_name step_delta entry utf16_chars encode_utf8
entry-of_revival = refl
