-- What the parts of a store stand for, computed. What is found is worked out by hand.
use Rattle.std.specs.Prelude.{◌≡◌, ℕ, true, false, Option, Some, None, List, [], ◌∷◌, ◌++◌, refl, codes}
use Rattle.std.specs.Char.{encode_utf8}
use Rattle.std.specs.Char.Utf16.{utf16_chars}
use Rattle.attributes.specs.Map.{empty, insert}
use Rattle.attributes.specs.Attributes.{changed_by}
use Rattle.delta.specs.Element.{Element, letters}
use Rattle.delta.specs.Operation.{insert_text, retain}
use Rattle.revision.specs.Command.{Taken}
use Rattle.revision.specs.declared.step.Step.TheVariants.{Edits, Deletes, Revives}
use Rattle.revision.specs.Sources.{with_taken}
use Rattle.revision.specs.State.{Limits, DocumentRecord, units_of, all_continue, record_after_all}
use Rattle.history.specs.Entries.{of_document}
use Rattle.history.specs.Cell.{Cell, Newer, Older, picked, freed}
use Rattle.history.specs.Found.{started, unread}

-- a store that holds two revisions below the newest one
abbrev small : Limits
small = record { docs = 2; sources = 4; weight = 1000; width = 237; keep = 2; retry = 8 }

abbrev text : List ℕ → List Element
text us = letters us empty

abbrev ann : List ℕ
ann = 97 ∷ []

abbrev bob : List ℕ
bob = 98 ∷ []

-- ann creates document 0, "d", with "z", bob creates document 1, "e", ann appends "x" to "z", and bob appends "y"
abbrev create_d : Taken
create_d = record { document = 0; name = Some (100 ∷ []); revision = 1; source = ann; number = 1; step = Edits; delta = insert_text (codes "z") empty ∷ [] }

abbrev create_e : Taken
create_e = record { document = 1; name = Some (101 ∷ []); revision = 1; source = bob; number = 1; step = Edits; delta = [] }

abbrev append_x : Taken
append_x = record { document = 0; name = None; revision = 2; source = ann; number = 2; step = Edits; delta = retain 1 empty ∷ insert_text (codes "x") empty ∷ [] }

abbrev append_y : Taken
append_y = record { document = 0; name = None; revision = 3; source = bob; number = 1; step = Edits; delta = retain 2 empty ∷ insert_text (codes "y") empty ∷ [] }

abbrev order : List Taken
order = create_d ∷ create_e ∷ append_x ∷ append_y ∷ []

of_d : of_document 0 order ≡ create_d ∷ append_x ∷ append_y ∷ []
of_d = refl

-- cells of it at revisions 1 and 2, and one at 2 that has lost its sources
abbrev at_1 : Cell
at_1 = record { name = 100 ∷ []; revision = 1; content = record { units = text (codes "z"); live = true }; sources = with_taken ann 1 1 empty }

abbrev at_2 : Cell
at_2 = record { name = 100 ∷ []; revision = 2; content = record { units = text (codes "zx"); live = true }; sources = with_taken ann 2 2 (with_taken ann 1 1 empty) }

abbrev without_sources : Cell
without_sources = record { name = 100 ∷ []; revision = 2; content = record { units = text (codes "zx"); live = true }; sources = empty }

-- which one is read, and of two of one revision
newer_of_two : picked Newer (Some at_1, Some at_2) ≡ Some at_2
newer_of_two = refl

older_of_two : picked Older (Some at_1, Some at_2) ≡ Some at_1
older_of_two = refl

older_of_equals : picked Older (Some at_2, Some without_sources) ≡ Some at_2
older_of_equals = refl

newer_of_equals : picked Newer (Some at_2, Some without_sources) ≡ Some without_sources
newer_of_equals = refl

older_of_one : picked Older (None, Some at_2) ≡ Some at_2
older_of_one = refl

older_is_freed : freed (Some at_1, Some at_2) ≡ (None, Some at_2)
older_is_freed = refl

-- what is read behind each
unread_at_2 : unread (Some at_2) (of_document 0 order) ≡ append_y ∷ []
unread_at_2 = refl

-- the units of a document that may be there
abbrev units_in : Option DocumentRecord → List Element
units_in None = []
units_in (Some found) = units_of found

abbrev read_from : Option Cell → List Taken → List Element
read_from cell entries = units_in (record_after_all small.keep (started cell) (unread cell entries))

from_none : read_from None (of_document 0 order) ≡ text (codes "zxy")
unfolding utf16_chars encode_utf8 changed_by insert
from_none = refl

from_2 : read_from (Some at_2) (of_document 0 order) ≡ text (codes "zxy")
unfolding utf16_chars encode_utf8 changed_by insert
from_2 = refl

-- the order's commands continue one another
is_order : all_continue small None (of_document 0 order) ≡ true
unfolding utf16_chars encode_utf8 changed_by insert
is_order = refl

-- the first three were retired: what is left continues the cell of revision 2, and not the one of revision 1, nor none
abbrev left : List Taken
left = append_y ∷ []

continues_2 : all_continue small (started (Some at_2)) (unread (Some at_2) left) ≡ true
unfolding utf16_chars encode_utf8 changed_by insert
continues_2 = refl

breaks_at_1 : all_continue small (started (Some at_1)) (unread (Some at_1) left) ≡ false
unfolding utf16_chars encode_utf8 changed_by insert
breaks_at_1 = refl

breaks_at_none : all_continue small (started None) (unread None left) ≡ false
unfolding utf16_chars encode_utf8 changed_by insert
breaks_at_none = refl

-- a source's next number shows that a cell has lost its sources
abbrev append_again : Taken
append_again = record { document = 0; name = None; revision = 3; source = ann; number = 3; step = Edits; delta = [] }

breaks_without_sources : all_continue small (started (Some without_sources)) (append_again ∷ []) ≡ false
unfolding utf16_chars encode_utf8 changed_by insert
breaks_without_sources = refl

-- bob deletes the document, and creates it again with "n": each is the lowest revision that is held from then on
abbrev delete_d : Taken
delete_d = record { document = 0; name = None; revision = 4; source = bob; number = 2; step = Deletes; delta = [] }

abbrev revive_d : Taken
revive_d = record { document = 0; name = None; revision = 5; source = bob; number = 3; step = Revives; delta = insert_text (codes "n") empty ∷ [] }

abbrev floor_in : Option DocumentRecord → ℕ
floor_in None = 0
floor_in (Some found) = found.past.floor

deleted_is_empty : units_in (record_after_all small.keep (started None) (of_document 0 order ++ delete_d ∷ [])) ≡ []
unfolding utf16_chars encode_utf8 changed_by insert
deleted_is_empty = refl

deleted_is_lowest : floor_in (record_after_all small.keep (started None) (of_document 0 order ++ delete_d ∷ [])) ≡ 4
unfolding utf16_chars encode_utf8 changed_by insert
deleted_is_lowest = refl

created_again : units_in (record_after_all small.keep (started None) (of_document 0 order ++ delete_d ∷ revive_d ∷ [])) ≡ text (codes "n")
unfolding utf16_chars encode_utf8 changed_by insert
created_again = refl

created_again_is_lowest : floor_in (record_after_all small.keep (started None) (of_document 0 order ++ delete_d ∷ revive_d ∷ [])) ≡ 5
unfolding utf16_chars encode_utf8 changed_by insert
created_again_is_lowest = refl

continues_again : all_continue small None (of_document 0 order ++ delete_d ∷ revive_d ∷ []) ≡ true
unfolding utf16_chars encode_utf8 changed_by insert
continues_again = refl

-- it isn't deleted twice, nor created where it is there
breaks_deleted_twice : all_continue small None (of_document 0 order ++ delete_d ∷ record revive_d { step = Deletes; delta = [] } ∷ []) ≡ false
unfolding utf16_chars encode_utf8 changed_by insert
breaks_deleted_twice = refl

breaks_edited : all_continue small None (of_document 0 order ++ delete_d ∷ record revive_d { step = Edits } ∷ []) ≡ false
unfolding utf16_chars encode_utf8 changed_by insert
breaks_edited = refl

breaks_created : all_continue small None (of_document 0 order ++ record delete_d { step = Revives } ∷ []) ≡ false
unfolding utf16_chars encode_utf8 changed_by insert
breaks_created = refl
