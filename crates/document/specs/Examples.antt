-- The definitions, computed on small documents.
use Rattle.std.specs.Prelude.{◌≡◌, List, [], ◌∷◌, ◌++◌, refl, true, codes}
use Rattle.std.proofs.Common.{inl, inr, arith}
use Rattle.attributes.specs.Map.{empty, insert}
use Rattle.attributes.specs.Attributes.{Attributes, Changes, changed_by}
use Rattle.attributes.specs.Scalar.{text_scalar, flag_scalar}
use Rattle.delta.specs.Element.{Element, letters, embedded}
use Rattle.delta.specs.Operation.{insert_text, retain, delete}
use Rattle.delta.specs.Gaps.{counted, apply}
use Rattle.delta.specs.Places.{IsDefined}
use Rattle.document.specs.Places.{Cuts}
use Rattle.document.specs.Weight.{weight_of}

abbrev bare : Attributes
bare = empty

abbrev plain : Changes
plain = empty

abbrev bold : Attributes
bold = insert empty (codes "bold") (flag_scalar true)

-- "a😀b", whose middle character is U+1F600
abbrev a_smile_b : List Element
a_smile_b = letters (97 ∷ 0xD83D ∷ 0xDE00 ∷ 98 ∷ []) bare

-- retain 1, delete 2 gives "ab"
smile_deleted : apply a_smile_b (counted (retain 1 plain ∷ delete 2 ∷ [])) ≡ letters (codes "ab") bare
unfolding changed_by
smile_deleted = refl

-- retain 2, insert "x" cuts the pair
cut_by_insert : Cuts a_smile_b (counted (retain 2 plain ∷ insert_text (codes "x") bare ∷ []))
cut_by_insert = (1, (refl, refl, refl), inr (λ e. cc))

-- retain 2, delete 1 cuts the pair
cut_by_delete : Cuts a_smile_b (counted (retain 2 plain ∷ delete 1 ∷ []))
cut_by_delete = (1, (refl, refl, refl), inl (λ e. cc))

-- and so does delete 2, which keeps the second unit
cut_at_end : Cuts a_smile_b (counted (delete 2 ∷ []))
cut_at_end = (1, (refl, refl, refl), inl (λ e. cc))

-- [retain 5, insert "x"] is undefined on "abcd"
past_end : ¬ (IsDefined (letters (codes "abcd") bare) (counted (retain 5 plain ∷ insert_text (codes "x") bare ∷ [])))
past_end h = omega arith

-- "ab" with bold on "a" weighs 40
weight_of_bold : weight_of (letters (codes "a") bold ++ letters (codes "b") bare) ≡ 40
unfolding insert
weight_of_bold = refl

-- the embed {image: "u"} weighs 30
weight_of_image : weight_of (embedded (codes "image") (text_scalar (codes "u")) bare ∷ []) ≡ 30
weight_of_image = refl

-- "abcde" weighs 60
weight_of_letters : weight_of (letters (codes "abcde") bare) ≡ 60
weight_of_letters = refl
