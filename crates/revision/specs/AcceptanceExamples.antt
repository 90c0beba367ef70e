-- The whole rule of acceptance, computed. What is answered, and the texts, are worked out by hand.
use Rattle.std.specs.Prelude.{◌≡◌, ℕ, zero, suc, ◌+◌, true, false, Some, None, Ok, Err, List, [], ◌∷◌, ◌++◌, refl, codes, map}
use Rattle.std.specs.Char.{encode_utf8}
use Rattle.std.specs.Char.Utf16.{utf16_chars}
use Rattle.refusal.specs.declared.Refusal.TheVariants.{NoDocument, Exists, Gap, OldNumber, Future, TooOld, PastEnd, TooHeavy, TooWide, NothingToUndo, TooManySources, Deleted}
use Rattle.attributes.specs.Map.{empty, insert, retain as retained}
use Rattle.attributes.specs.Attributes.{Changes, changed_by, reverted_by}
use Rattle.attributes.specs.Scalar.{flag_scalar}
use Rattle.delta.specs.Element.{Element, letters}
use Rattle.delta.specs.Operation.{Operation, insert_text, retain, delete}
use Rattle.revision.specs.Window.{Window}
use Rattle.revision.specs.Sources.{Sources}
use Rattle.revision.specs.Past.{Content}
use Rattle.revision.specs.Command.{Action, Create, Edit, Undo, Delete, Command, Taken, Deletes, Revives, width_of}
use Rattle.revision.specs.State.{DocumentRecord, State, adopts, adopted}
use Rattle.revision.specs.Acceptance.{Reply, TakenAt, AgainAt, Refused, decide}
use Rattle.revision.specs.Readings.{document_at, taken_since}

abbrev ins : List ℕ → Operation
ins us = insert_text us empty

abbrev ret : ℕ → Operation
ret n = retain n empty

abbrev text : List ℕ → List Element
text us = letters us empty

-- an empty store whose slots and cells have 256 bytes
abbrev small : State
small = record { limits = record { docs = 2; sources = 4; weight = 128; width = 237; keep = 2; retry = 8 }; documents = [] }

-- one whose documents may be heavier
abbrev roomy : State
roomy = record { limits = record { docs = 2; sources = 4; weight = 1000; width = 237; keep = 2; retry = 8 }; documents = [] }

-- a source's command to the document "d", by the letter of its name
abbrev ask : ℕ → ℕ → Action → Command
ask source number action = record { name = 100 ∷ []; source = source ∷ []; number = number; action = action }

abbrev ann : ℕ
ann = 97

abbrev bob : ℕ
bob = 98

abbrev carl : ℕ
carl = 99

-- the state after commands
abbrev after_all : State → List Command → State
after_all state [] = state
after_all state (first ∷ others) = after_all (decide state first).1 others

abbrev reply_after : State → List Command → Command → Reply
reply_after state before command = (decide (after_all state before) command).0

-- "abcd" at revision 1: [ret 5] is the empty delta, and taken; [ret 5, ins "x"] speaks of a unit that isn't there
abbrev abcd : List Command
abcd = ask ann 1 (Create (ins (codes "abcd") ∷ [])) ∷ []

nothing_is_taken : reply_after small abcd (ask ann 2 (Edit 1 [])) ≡ TakenAt 2
unfolding utf16_chars encode_utf8 insert
nothing_is_taken = refl

past_the_end : reply_after small abcd (ask ann 2 (Edit 1 (ret 5 ∷ ins (codes "x") ∷ []))) ≡ Refused PastEnd
unfolding utf16_chars encode_utf8 insert
past_the_end = refl

-- "z" at 1, [ret 1, ins "x"] at 2, [del 1] at 3; an edit [ins "y"] of base 1 gives "yx" at 4
abbrev z_to_x : List Command
z_to_x = ask ann 1 (Create (ins (codes "z") ∷ [])) ∷ ask ann 2 (Edit 1 (ret 1 ∷ ins (codes "x") ∷ [])) ∷ ask ann 3 (Edit 2 (delete 1 ∷ [])) ∷ []

y_is_taken : reply_after roomy z_to_x (ask bob 1 (Edit 1 (ins (codes "y") ∷ []))) ≡ TakenAt 4
unfolding utf16_chars encode_utf8 changed_by insert
y_is_taken = refl

y_before_x : document_at (after_all roomy (z_to_x ++ ask bob 1 (Edit 1 (ins (codes "y") ∷ [])) ∷ [])) (100 ∷ []) 4 ≡ Ok (text (codes "yx"))
unfolding utf16_chars encode_utf8 changed_by insert
y_before_x = refl

-- [ret 1 {bold: true}] was taken; [ret 1 {bold: null, italic: true}] of the same base is taken as [ret 1 {italic: true}]
abbrev bolden : Changes
bolden = insert empty (codes "bold") (Some (flag_scalar true))

abbrev slant : Changes
slant = insert empty (codes "italic") (Some (flag_scalar true))

abbrev z_in_bold : List Command
z_in_bold = ask ann 1 (Create (ins (codes "z") ∷ [])) ∷ ask ann 2 (Edit 1 (retain 1 bolden ∷ [])) ∷ []

bold_stays : taken_since (after_all roomy (z_in_bold ++ ask bob 1 (Edit 1 (retain 1 (insert slant (codes "bold") None) ∷ [])) ∷ [])) (100 ∷ []) 2
    ≡ Ok ((retain 1 slant ∷ []) ∷ [])
unfolding utf16_chars encode_utf8 insert retained changed_by
bold_stays = refl

-- one source: create 1, then edits numbered 2, 2, 1, 4
abbrev created : List Command
created = ask ann 1 (Create []) ∷ []

abbrev edited : List Command
edited = ask ann 1 (Create []) ∷ ask ann 2 (Edit 1 []) ∷ []

first_is_taken : reply_after small [] (ask ann 1 (Create [])) ≡ TakenAt 1
unfolding insert
first_is_taken = refl

second_is_taken : reply_after small created (ask ann 2 (Edit 1 [])) ≡ TakenAt 2
unfolding insert
second_is_taken = refl

second_again : reply_after small edited (ask ann 2 (Edit 1 [])) ≡ AgainAt 2
unfolding insert
second_again = refl

first_again : reply_after small edited (ask ann 1 (Edit 1 [])) ≡ AgainAt 1
unfolding insert
first_again = refl

fourth_leaves_a_gap : reply_after small edited (ask ann 4 (Edit 1 [])) ≡ Refused Gap
unfolding insert
fourth_leaves_a_gap = refl

-- a document at revision 17 with a source that has taken 17 numbers, so its window has the last 16
abbrev last_sixteen : List ℕ
last_sixteen = 2 ∷ 3 ∷ 4 ∷ 5 ∷ 6 ∷ 7 ∷ 8 ∷ 9 ∷ 10 ∷ 11 ∷ 12 ∷ 13 ∷ 14 ∷ 15 ∷ 16 ∷ 17 ∷ []

abbrev after_17 : State
after_17 = adopted roomy (100 ∷ []) (record { units = []; live = true }) 17 (insert empty (ann ∷ []) (record { number = 17; revisions = last_sixteen }))

-- the second number is the lowest of the window; after 18 numbers it is too old
second_of_17 : reply_after after_17 [] (ask ann 2 (Edit 1 [])) ≡ AgainAt 2
unfolding insert
second_of_17 = refl

first_of_17 : reply_after after_17 [] (ask ann 1 (Edit 1 [])) ≡ Refused OldNumber
unfolding insert
first_of_17 = refl

creation_after_17 : reply_after after_17 [] (ask ann 1 (Create [])) ≡ Refused Exists
unfolding insert
creation_after_17 = refl

second_of_18 : reply_after after_17 (ask ann 18 (Edit 17 []) ∷ []) (ask ann 2 (Edit 1 [])) ≡ Refused OldNumber
unfolding insert
second_of_18 = refl

third_of_18 : reply_after after_17 (ask ann 18 (Edit 17 []) ∷ []) (ask ann 3 (Edit 1 [])) ≡ AgainAt 3
unfolding insert
third_of_18 = refl

-- keep 2, revision 4, floor 2: base 5 is yet to come, base 1 is too old, base 2 is taken as 5 and the floor becomes 3
abbrev four : List Command
four = edited ++ (ask ann 3 (Edit 2 []) ∷ ask ann 4 (Edit 3 []) ∷ [])

abbrev floors : State → List ℕ
floors state = map (λ (d : DocumentRecord). d.past.floor) state.documents

floor_of_four : floors (after_all small four) ≡ 2 ∷ []
unfolding insert
floor_of_four = refl

base_to_come : reply_after small four (ask bob 1 (Edit 5 [])) ≡ Refused Future
unfolding insert
base_to_come = refl

base_too_old : reply_after small four (ask bob 1 (Edit 1 [])) ≡ Refused TooOld
unfolding insert
base_too_old = refl

base_is_held : reply_after roomy four (ask bob 1 (Edit 2 [])) ≡ TakenAt 5
unfolding insert
base_is_held = refl

floor_of_five : floors (after_all roomy (four ++ ask bob 1 (Edit 2 []) ∷ [])) ≡ 3 ∷ []
unfolding insert
floor_of_five = refl

-- "abcde" weighs 124 and is taken; "abcdef" weighs 136
five_letters : reply_after small [] (ask ann 1 (Create (ins (codes "abcde") ∷ []))) ≡ TakenAt 1
unfolding utf16_chars encode_utf8 insert
five_letters = refl

six_letters : reply_after small [] (ask ann 1 (Create (ins (codes "abcdef") ∷ []))) ≡ Refused TooHeavy
unfolding utf16_chars encode_utf8 insert
six_letters = refl

-- a second number weighs 8 more, so an edit that does nothing is too heavy behind the five letters
five_letters_and_no_more : reply_after small (ask ann 1 (Create (ins (codes "abcde") ∷ [])) ∷ []) (ask ann 2 (Edit 1 [])) ≡ Refused TooHeavy
unfolding utf16_chars encode_utf8 insert
five_letters_and_no_more = refl

-- ann creates "ab" (1), and edits [ret 1, del 1] (2); bob edits [ins "q"] of base 2 (3); ann's undo 3 gives "qab" (4), her
-- undo 4 gives "qa" (5); carl has nothing to undo
abbrev undone : List Command
undone = ask ann 1 (Create (ins (codes "ab") ∷ [])) ∷ ask ann 2 (Edit 1 (ret 1 ∷ delete 1 ∷ [])) ∷ ask bob 1 (Edit 2 (ins (codes "q") ∷ []))
    ∷ ask ann 3 Undo ∷ []

undo_is_taken : document_at (after_all roomy undone) (100 ∷ []) 4 ≡ Ok (text (codes "qab"))
unfolding utf16_chars encode_utf8 changed_by reverted_by insert
undo_is_taken = refl

undo_is_undone : document_at (after_all roomy (undone ++ ask ann 4 Undo ∷ [])) (100 ∷ []) 5 ≡ Ok (text (codes "qa"))
unfolding utf16_chars encode_utf8 changed_by reverted_by insert
undo_is_undone = refl

nothing_to_undo : reply_after roomy undone (ask carl 1 Undo) ≡ Refused NothingToUndo
unfolding utf16_chars encode_utf8 changed_by reverted_by insert
nothing_to_undo = refl

-- what was taken since, while it is held
since_2 : taken_since (after_all roomy undone) (100 ∷ []) 2 ≡ Ok ((ins (codes "q") ∷ []) ∷ (ret 2 ∷ ins (codes "b") ∷ []) ∷ [])
unfolding utf16_chars encode_utf8 changed_by reverted_by insert
since_2 = refl

since_1 : taken_since (after_all roomy undone) (100 ∷ []) 1 ≡ Err TooOld
unfolding utf16_chars encode_utf8 changed_by reverted_by insert
since_1 = refl

-- ann's creation sent again, her last number there being 1, is again 1; bob's creation of the document comes too late
creation_again : reply_after small created (ask ann 1 (Create [])) ≡ AgainAt 1
unfolding insert
creation_again = refl

created_by_another : reply_after small created (ask bob 1 (Create [])) ≡ Refused Exists
unfolding insert
created_by_another = refl

-- an edit [ret 1] with 15 removals of names of ten bytes has an entry of 236 bytes; with 16 of them it has 249
abbrev removals : ℕ → Changes
removals zero = empty
removals (suc n) = insert (removals n) (codes "removal_x" ++ (97 + n) ∷ []) None

abbrev z_alone : List Command
z_alone = ask ann 1 (Create (ins (codes "z") ∷ [])) ∷ []

fifteen_removals : reply_after small z_alone (ask ann 2 (Edit 1 (retain 1 (removals 15) ∷ []))) ≡ TakenAt 2
unfolding utf16_chars encode_utf8 insert retained changed_by
fifteen_removals = refl

sixteen_removals : reply_after small z_alone (ask ann 2 (Edit 1 (retain 1 (removals 16) ∷ []))) ≡ Refused TooWide
unfolding utf16_chars encode_utf8 insert retained changed_by
sixteen_removals = refl

-- what a document's past says of revisions that aren't held
no_document : document_at small (100 ∷ []) 0 ≡ Err NoDocument
unfolding insert
no_document = refl

revision_to_come : document_at (after_all small four) (100 ∷ []) 5 ≡ Err Future
unfolding insert
revision_to_come = refl

abbrev window_of_one : ℕ → ℕ → Window
window_of_one number revision = record { number = number; revisions = revision ∷ [] }

-- a document with two sources is added at revision 7, without its past
abbrev sevens : Sources
sevens = insert (insert empty (bob ∷ []) (window_of_one 1 2)) (ann ∷ []) (window_of_one 3 7)

abbrev no_units : Content
no_units = record { units = []; live = true }

abbrev after_adoption : State
after_adoption = adopted roomy (100 ∷ []) no_units 7 sevens

is_adopted : adopts small (100 ∷ []) no_units 7 sevens ≡ true
unfolding insert
is_adopted = refl

too_late_an_entry : adopts small (100 ∷ []) no_units 6 sevens ≡ false
unfolding insert
too_late_an_entry = refl

-- a document that is deleted is adopted without units, as revision 2 or above
abbrev gone : List Element → Content
gone units = record { units = units; live = false }

adopted_as_deleted : adopts small (100 ∷ []) (gone []) 2 empty ≡ true
adopted_as_deleted = refl

deleted_with_units : adopts small (100 ∷ []) (gone (text (122 ∷ []))) 2 empty ≡ false
deleted_with_units = refl

deleted_by_its_creation : adopts small (100 ∷ []) (gone []) 1 empty ≡ false
deleted_by_its_creation = refl

same_name : adopts after_adoption (100 ∷ []) no_units 7 empty ≡ false
unfolding insert
same_name = refl

taken_after_adoption : reply_after after_adoption [] (ask ann 4 (Edit 7 [])) ≡ TakenAt 8
unfolding insert
taken_after_adoption = refl

undo_after_adoption : reply_after after_adoption [] (ask ann 4 Undo) ≡ Refused TooOld
unfolding insert
undo_after_adoption = refl

-- ann creates "z" (1), edits [ret 1, ins "x"] (2) and deletes with 3: that is taken as 3, and nothing older is held
abbrev deleted : List Command
deleted = ask ann 1 (Create (ins (codes "z") ∷ [])) ∷ ask ann 2 (Edit 1 (ret 1 ∷ ins (codes "x") ∷ [])) ∷ ask ann 3 Delete ∷ []

deletion_is_taken : reply_after roomy (ask ann 1 (Create (ins (codes "z") ∷ [])) ∷ ask ann 2 (Edit 1 []) ∷ []) (ask ann 3 Delete) ≡ TakenAt 3
unfolding utf16_chars encode_utf8 changed_by insert
deletion_is_taken = refl

floor_of_deletion : floors (after_all roomy deleted) ≡ 3 ∷ []
unfolding utf16_chars encode_utf8 changed_by insert
floor_of_deletion = refl

deleted_is_not_read : document_at (after_all roomy deleted) (100 ∷ []) 3 ≡ Err Deleted
unfolding utf16_chars encode_utf8 changed_by insert
deleted_is_not_read = refl

edit_of_deleted : reply_after roomy deleted (ask bob 1 (Edit 2 [])) ≡ Refused Deleted
unfolding utf16_chars encode_utf8 changed_by insert
edit_of_deleted = refl

gap_before_deleted : reply_after roomy deleted (ask bob 2 Delete) ≡ Refused Gap
unfolding utf16_chars encode_utf8 changed_by insert
gap_before_deleted = refl

deletion_again : reply_after roomy deleted (ask ann 3 Delete) ≡ AgainAt 3
unfolding utf16_chars encode_utf8 changed_by insert
deletion_again = refl

deleted_twice : reply_after roomy deleted (ask ann 4 Delete) ≡ Refused Deleted
unfolding utf16_chars encode_utf8 changed_by insert
deleted_twice = refl

-- her create 4 [ins "n"] is taken as 4, from which on the document is held
abbrev revived : List Command
revived = deleted ++ ask ann 4 (Create (ins (codes "n") ∷ [])) ∷ []

revival_is_taken : reply_after roomy deleted (ask ann 4 (Create (ins (codes "n") ∷ []))) ≡ TakenAt 4
unfolding utf16_chars encode_utf8 changed_by insert
revival_is_taken = refl

revived_is_read : document_at (after_all roomy revived) (100 ∷ []) 4 ≡ Ok (text (codes "n"))
unfolding utf16_chars encode_utf8 changed_by insert
revived_is_read = refl

floor_of_revival : floors (after_all roomy revived) ≡ 4 ∷ []
unfolding utf16_chars encode_utf8 changed_by insert
floor_of_revival = refl

base_before_deletion : reply_after roomy revived (ask bob 1 (Edit 2 [])) ≡ Refused TooOld
unfolding utf16_chars encode_utf8 changed_by insert
base_before_deletion = refl

base_after_it : reply_after roomy revived (ask bob 1 (Edit 4 [])) ≡ TakenAt 5
unfolding utf16_chars encode_utf8 changed_by insert
base_after_it = refl

first_creation_again : reply_after roomy revived (ask ann 1 (Create [])) ≡ AgainAt 1
unfolding utf16_chars encode_utf8 changed_by insert
first_creation_again = refl

undo_of_revival : reply_after roomy revived (ask ann 5 Undo) ≡ Refused TooOld
unfolding utf16_chars encode_utf8 changed_by insert
undo_of_revival = refl

created_where_it_is : reply_after roomy revived (ask ann 5 (Create [])) ≡ Refused Exists
unfolding utf16_chars encode_utf8 changed_by insert
created_where_it_is = refl

-- the sources stay, and weigh what they weighed: with "abcde" at the limit a deletion is taken, and behind an empty document of that weight not
deletion_of_five_letters : reply_after small (ask ann 1 (Create (ins (codes "abcde") ∷ [])) ∷ []) (ask ann 2 Delete) ≡ TakenAt 2
unfolding utf16_chars encode_utf8 changed_by insert
deletion_of_five_letters = refl

abbrev scant : State
scant = record { limits = record { docs = 2; sources = 1; weight = 64; width = 237; keep = 2; retry = 8 }; documents = [] }

deletion_too_heavy : reply_after scant created (ask ann 2 Delete) ≡ Refused TooHeavy
unfolding insert
deletion_too_heavy = refl

deletion_by_one_too_many : reply_after scant created (ask bob 1 Delete) ≡ Refused TooManySources
unfolding insert
deletion_by_one_too_many = refl

-- an entry of a deletion has 24 bytes, and that of a creation again with one letter 38
abbrev entry_of_deletion : Taken
entry_of_deletion = record { document = 0; name = None; revision = 3; source = ann ∷ []; number = 3; step = Deletes; delta = [] }

deletion_is_narrow : width_of entry_of_deletion ≡ 24
deletion_is_narrow = refl

revival_is_wider : width_of (record entry_of_deletion { revision = 4; number = 4; step = Revives; delta = ins (codes "n") ∷ [] }) ≡ 38
unfolding utf16_chars encode_utf8 insert
revival_is_wider = refl
