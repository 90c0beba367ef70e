-- Compositions and inverses, computed.
use Rattle.std.specs.Prelude.{◌≡◌, ℕ, true, List, [], ◌∷◌, Some, None, refl, codes}
use Rattle.attributes.specs.Map.{empty, insert, retain as retained, insert_all}
use Rattle.attributes.specs.Attributes.{Attributes, Changes, changed_by, reverted_by}
use Rattle.attributes.specs.Scalar.{flag_scalar}
use Rattle.delta.specs.Element.{Element, letters}
use Rattle.delta.specs.Operation.{Operation, insert_text, retain, delete}
use Rattle.delta.specs.Gaps.{counted}
use Rattle.delta.specs.Normal.{nf}
use Rattle.compose.specs.Composed.{one_for}
use Rattle.compose.specs.Inverse.{inverse}

abbrev bare : Attributes
bare = empty

abbrev plain : Changes
plain = empty

abbrev bold : Attributes
bold = insert empty (codes "bold") (flag_scalar true)

abbrev bolden : Changes
bolden = insert empty (codes "bold") (Some (flag_scalar true))

abbrev unbolden : Changes
unbolden = insert empty (codes "bold") None

abbrev ins : List ℕ → Operation
ins us = insert_text us bare

abbrev back : List Operation → List Element → List Operation
back ops d = nf (inverse (counted ops) d)

-- [ins "abc"], then [ret 1, del 1], is [ins "ac"]
deleted_within : one_for (ins (codes "abc") ∷ []) (retain 1 plain ∷ delete 1 ∷ []) ≡ ins (codes "ac") ∷ []
unfolding changed_by
deleted_within = refl

-- [ins "a" {bold: true}], then [ret 1 {bold: null}], is [ins "a"]
null_on_insert : one_for (insert_text (codes "a") bold ∷ []) (retain 1 unbolden ∷ []) ≡ ins (codes "a") ∷ []
unfolding insert retained changed_by
null_on_insert = refl

-- [ret 1 {bold: true}], then [ret 1 {bold: null}], is [ret 1 {bold: null}]
null_on_retain : one_for (retain 1 bolden ∷ []) (retain 1 unbolden ∷ []) ≡ retain 1 unbolden ∷ []
unfolding insert insert_all
null_on_retain = refl

-- on "Hello\nWorld", [ret 6 {bold: true}, ins "!", del 5] goes back by [ret 6 {bold: null}, ins "World", del 1]
hello_back : back (retain 6 bolden ∷ ins (codes "!") ∷ delete 5 ∷ []) (letters (codes "Hello\nWorld") bare)
    ≡ retain 6 unbolden ∷ ins (codes "World") ∷ delete 1 ∷ []
unfolding insert reverted_by
hello_back = refl

-- on "ab", [ret 1 {bold: null}] goes back by nothing
nothing_back : back (retain 1 unbolden ∷ []) (letters (codes "ab") bare) ≡ []
unfolding insert reverted_by
nothing_back = refl
