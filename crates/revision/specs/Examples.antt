-- Late edits and undo, computed. What is taken, and the texts, are worked out by hand.
use Rattle.std.specs.Prelude.{◌≡◌, ℕ, true, List, [], ◌∷◌, Some, None, refl, codes}
use Rattle.attributes.specs.Map.{empty, insert, retain as retained}
use Rattle.attributes.specs.Attributes.{Changes, changed_by, reverted_by}
use Rattle.attributes.specs.Scalar.{flag_scalar}
use Rattle.delta.specs.Element.{Element, letters}
use Rattle.delta.specs.Operation.{Operation, insert_text, retain, delete}
use Rattle.delta.specs.Gaps.{counted, apply}
use Rattle.delta.specs.Normal.{nf}
use Rattle.compose.specs.Many.{many}
use Rattle.revision.specs.State.{reaches_past}
use Rattle.revision.specs.Late.{late}
use Rattle.revision.specs.Past.{units_at, deltas_since, undo_of}

abbrev ins : List ℕ → Operation
ins us = insert_text us empty

abbrev ret : ℕ → Operation
ret n = retain n empty

abbrev text : List ℕ → List Element
text us = letters us empty

-- on "abcd", [ret 5] is the empty delta, and [ret 5, ins "x"] speaks of a unit that isn't there
kept_past_end : late (nf (counted (ret 5 ∷ []))) [] ≡ []
kept_past_end = refl

inserted_past_end : reaches_past (late (ret 5 ∷ ins (codes "x") ∷ []) []) (text (codes "abcd")) ≡ true
inserted_past_end = refl

-- "z" at revision 1, [ret 1, ins "x"] at 2, [del 1] at 3: an edit [ins "y"] of base 1 gives "yx"
abbrev after_z : List (List Operation)
after_z = (ret 1 ∷ ins (codes "x") ∷ []) ∷ (delete 1 ∷ []) ∷ []

z_at_3 : units_at 1 (text (codes "z")) after_z 3 ≡ text (codes "x")
unfolding changed_by
z_at_3 = refl

y_late : late (ins (codes "y") ∷ []) (deltas_since 1 after_z 1) ≡ ins (codes "y") ∷ []
y_late = refl

y_before_x : apply (units_at 1 (text (codes "z")) after_z 3) (counted (late (ins (codes "y") ∷ []) (deltas_since 1 after_z 1))) ≡ text (codes "yx")
unfolding changed_by
y_before_x = refl

-- past the one delta that composes the two, [ins "x", del 1], it would give "xy"
z_composed : many after_z ≡ ins (codes "x") ∷ delete 1 ∷ []
unfolding changed_by
z_composed = refl

y_past_composed : apply (units_at 1 (text (codes "z")) after_z 3) (counted (late (ins (codes "y") ∷ []) (many after_z ∷ []))) ≡ text (codes "xy")
unfolding changed_by
y_past_composed = refl

-- [ret 1 {bold: true}] was taken; [ret 1 {bold: null, italic: true}] of the same base is taken as [ret 1 {italic: true}]
abbrev bolden : Changes
bolden = insert empty (codes "bold") (Some (flag_scalar true))

abbrev slant : Changes
slant = insert empty (codes "italic") (Some (flag_scalar true))

abbrev slant_and_unbolden : Changes
slant_and_unbolden = insert slant (codes "bold") None

bold_stays : late (retain 1 slant_and_unbolden ∷ []) ((retain 1 bolden ∷ []) ∷ []) ≡ retain 1 slant ∷ []
unfolding insert retained
bold_stays = refl

-- "ab" at revision 1, [ret 1, del 1] at 2, [ins "q"] at 3: the undo of 2 is taken as [ret 2, ins "b"], and gives "qab" at 4
abbrev after_ab : List (List Operation)
after_ab = (ret 1 ∷ delete 1 ∷ []) ∷ (ins (codes "q") ∷ []) ∷ []

deletion_undone : undo_of 1 (text (codes "ab")) after_ab 2 ≡ ret 2 ∷ ins (codes "b") ∷ []
unfolding changed_by reverted_by
deletion_undone = refl

abbrev after_undo : List (List Operation)
after_undo = (ret 1 ∷ delete 1 ∷ []) ∷ (ins (codes "q") ∷ []) ∷ (ret 2 ∷ ins (codes "b") ∷ []) ∷ []

qab_at_4 : units_at 1 (text (codes "ab")) after_undo 4 ≡ text (codes "qab")
unfolding changed_by
qab_at_4 = refl

-- the undo of 4 is [ret 2, del 1], and gives "qa"
undo_undone : undo_of 1 (text (codes "ab")) after_undo 4 ≡ ret 2 ∷ delete 1 ∷ []
unfolding changed_by reverted_by
undo_undone = refl

qa_at_5 : apply (units_at 1 (text (codes "ab")) after_undo 4) (counted (undo_of 1 (text (codes "ab")) after_undo 4)) ≡ text (codes "qa")
unfolding changed_by reverted_by
qa_at_5 = refl

-- what was taken since 2, and the same undo from a floor of 2
since_2 : deltas_since 1 after_undo 2 ≡ (ins (codes "q") ∷ []) ∷ (ret 2 ∷ ins (codes "b") ∷ []) ∷ []
since_2 = refl

undone_from_2 : undo_of 2 (text (codes "a")) (deltas_since 1 after_undo 2) 4 ≡ ret 2 ∷ delete 1 ∷ []
unfolding changed_by reverted_by
undone_from_2 = refl
