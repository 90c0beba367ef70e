-- Deltas spelled out.
use Rattle.std.specs.Prelude.{◌≡◌, negsuc, true, None, [], ◌∷◌, refl, codes}
use Rattle.std.specs.Char.{encode_utf8}
use Rattle.std.specs.Char.Utf16.{utf16_chars}
use Rattle.attributes.specs.Map.{empty, insert}
use Rattle.attributes.specs.Attributes.{Attributes}
use Rattle.attributes.specs.Scalar.{text_scalar, whole_scalar, flag_scalar}
use Rattle.delta.specs.Operation.{insert_text, insert_embed, retain, delete}
use Rattle.journal.specs.Spelling.{number, text16, text32}
use Rattle.journal.specs.DeltaSpelling.{value, new_value, pair, pairs, operation, delta}

abbrev bare : Attributes
bare = empty

-- insert "a": the count; the tag, the text behind its length, no attributes
insert_a : delta (insert_text (codes "a") bare ∷ []) ≡ 1 ∷ 0 ∷ 0 ∷ 0 ∷ 1 ∷ 1 ∷ 0 ∷ 0 ∷ 0 ∷ 97 ∷ 0 ∷ 0 ∷ 0 ∷ 0 ∷ []
unfolding number text32 pairs operation delta utf16_chars encode_utf8
insert_a = refl

-- retain 1 without bold any more: the count; the tag, the length, one name, which is removed
retain_without_bold : delta (retain 1 (insert empty (codes "bold") None) ∷ []) ≡
    1 ∷ 0 ∷ 0 ∷ 0 ∷ 3 ∷ 1 ∷ 0 ∷ 0 ∷ 0 ∷ 0 ∷ 0 ∷ 0 ∷ 0 ∷ 1 ∷ 0 ∷ 0 ∷ 0 ∷ 4 ∷ 0 ∷ 98 ∷ 111 ∷ 108 ∷ 100 ∷ 0 ∷ []
unfolding number text16 value new_value pair pairs operation delta insert
retain_without_bold = refl

-- insert "x" in bold, delete 2
bold_and_delete : delta (insert_text (codes "x") (insert empty (codes "bold") (flag_scalar true)) ∷ delete 2 ∷ []) ≡
    2 ∷ 0 ∷ 0 ∷ 0 ∷ 1 ∷ 1 ∷ 0 ∷ 0 ∷ 0 ∷ 120 ∷ 1 ∷ 0 ∷ 0 ∷ 0 ∷ 4 ∷ 0 ∷ 98 ∷ 111 ∷ 108 ∷ 100 ∷ 2
    ∷ 4 ∷ 2 ∷ 0 ∷ 0 ∷ 0 ∷ 0 ∷ 0 ∷ 0 ∷ 0 ∷ []
unfolding number text16 text32 value pair pairs operation delta insert utf16_chars encode_utf8
bold_and_delete = refl

-- insert an image, the text "u"
image : delta (insert_embed (codes "image") (text_scalar (codes "u")) bare ∷ []) ≡
    1 ∷ 0 ∷ 0 ∷ 0 ∷ 2 ∷ 5 ∷ 0 ∷ 105 ∷ 109 ∷ 97 ∷ 103 ∷ 101 ∷ 4 ∷ 1 ∷ 0 ∷ 0 ∷ 0 ∷ 117 ∷ 0 ∷ 0 ∷ 0 ∷ 0 ∷ []
unfolding number text16 text32 value pairs operation delta
image = refl

-- the number -1 in two's complement
minus_one : value (whole_scalar (negsuc 0)) ≡ 3 ∷ 255 ∷ 255 ∷ 255 ∷ 255 ∷ 255 ∷ 255 ∷ 255 ∷ 255 ∷ []
unfolding number value
minus_one = refl
