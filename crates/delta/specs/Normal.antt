-- Normal form: the one spelling of what a delta does (quill-delta's `Delta` merges and orders its operations so as they are pushed).
use Rattle.std.specs.Prelude.{ℕ, suc, ◌<◌, Bool, true, false, not, ◌&&◌, IsTrue, List, [], ◌∷◌, is_none, nat_lt, if◌then◌else◌}
use Rattle.attributes.specs.Map.{empty}
use Rattle.attributes.specs.Attributes.{Attributes, Changes, same_attributes, same_changes}
use Rattle.delta.specs.Element.{Element, Item, code_unit, embed}
use Rattle.delta.specs.Operation.{Operation, insert_text, insert_embed, retain, delete, op_len, is_insert, is_delete, is_plain, merged}
use Rattle.delta.specs.Gaps.{Gaps, End, Gap, Fate, Del, Keep, front, counted}

-- the first may stand directly before the second: they don't merge, and no insert stands after a delete
abbrev pub may_precede : Operation → Operation → Bool
may_precede first second = is_none (merged first second) && not (is_delete first && is_insert second)

-- the operation may stand before the operations
abbrev pub may_lead : Operation → List Operation → Bool
may_lead op [] = true
may_lead op (next ∷ ops) = may_precede op next

-- the operations begin with no text of these attributes, with no retain of this change, with no insert and no delete
abbrev pub is_apart_text : Attributes → List Operation → Bool
is_apart_text a (insert_text vs b ∷ ops) = not (same_attributes a b)
is_apart_text a ops = true

abbrev pub is_apart_retain : Changes → List Operation → Bool
is_apart_retain c (retain n d ∷ ops) = not (same_changes c d)
is_apart_retain c ops = true

abbrev pub is_apart_delete : List Operation → Bool
is_apart_delete [] = true
is_apart_delete (retain n d ∷ ops) = true
is_apart_delete _ = false

-- merged and in order, as a builder keeps its operations: none is empty, and each neighbours may stand so
abbrev pub is_built : List Operation → Bool
is_built [] = true
is_built (op ∷ []) = nat_lt 0 (op_len op)
is_built (op ∷ next ∷ ops) = nat_lt 0 (op_len op) && (may_precede op next && is_built (next ∷ ops))

-- each operation inserts, keeps or deletes a unit
abbrev pub NoneIsEmpty : List Operation → Type 0
NoneIsEmpty [] = Unit {0}
NoneIsEmpty (op ∷ ops) = (0 < op_len op) × NoneIsEmpty ops

-- the last operation is a retain without attributes
abbrev pub ends_plain : List Operation → Bool
ends_plain [] = false
ends_plain (op ∷ []) = is_plain op
ends_plain (op ∷ next ∷ ops) = ends_plain (next ∷ ops)

-- normal form: no operation of length 0, no two neighbours that merge, no delete directly before an insert, no last retain
-- without attributes. An insert has no null by its type.
abbrev pub IsNormal : List Operation → Type 0
IsNormal ops = IsTrue (is_built ops && not (ends_plain ops))

-- a unit of this fate before the others; what is inserted directly after a deleted unit moves before it
abbrev pub past : Fate → Gaps → Gaps
past (Keep c) g = Gap [] (Keep c) g
past Del (End ys) = Gap ys Del (End [])
past Del (Gap ys f g) = Gap ys Del (Gap [] f g)

-- what is inserted within or after a run of deletes moves before the run, in order
abbrev pub settled : Gaps → Gaps
settled (End xs) = End xs
settled (Gap xs f g) = front xs (past f (settled g))

-- no kept unit without a change stands last with nothing after it
abbrev pub trim : List Element → Fate → Gaps → Gaps
trim xs (Keep c) (End []) = if same_changes c empty then End xs else Gap xs (Keep c) (End [])
trim xs f g = Gap xs f g

abbrev pub trimmed : Gaps → Gaps
trimmed (End xs) = End xs
trimmed (Gap xs f g) = trim xs f (trimmed g)

-- a unit inserted, kept or deleted before operations, in the first of them where it fits
abbrev pub spell_unit : ℕ → Attributes → List Operation → List Operation
spell_unit u a (insert_text us b ∷ ops) = if same_attributes a b then insert_text (u ∷ us) b ∷ ops else insert_text (u ∷ []) a ∷ insert_text us b ∷ ops
spell_unit u a ops = insert_text (u ∷ []) a ∷ ops

abbrev pub spell_item : Item → Attributes → List Operation → List Operation
spell_item (code_unit u) a ops = spell_unit u a ops
spell_item (embed key value) a ops = insert_embed key value a ∷ ops

abbrev pub spell_inserts : List Element → List Operation → List Operation
spell_inserts [] ops = ops
spell_inserts (x ∷ xs) ops = spell_item x.item x.attributes (spell_inserts xs ops)

abbrev pub spell_fate : Fate → List Operation → List Operation
spell_fate (Keep c) (retain n d ∷ ops) = if same_changes c d then retain (suc n) d ∷ ops else retain 1 c ∷ retain n d ∷ ops
spell_fate (Keep c) ops = retain 1 c ∷ ops
spell_fate Del (delete n ∷ ops) = delete (suc n) ∷ ops
spell_fate Del ops = delete 1 ∷ ops

-- the operations of a gap form, as few as they can be
abbrev pub spelled : Gaps → List Operation
spelled (End xs) = spell_inserts xs []
spelled (Gap xs f g) = spell_inserts xs (spell_fate f (spelled g))

-- the normal form with a gap form's effect
abbrev pub nf : Gaps → List Operation
nf g = spelled (trimmed (settled g))

-- the operations as a builder keeps them, which may yet end with a retain without attributes
abbrev pub built : List Operation → List Operation
built ops = spelled (settled (counted ops))
