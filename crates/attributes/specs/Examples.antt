-- The operations on changes, computed on the cases that quill-delta publishes for its AttributeMap.
use Rattle.std.specs.Prelude.{◌≡◌, ℕ, true, false, List, [], ◌∷◌, Some, None, refl, codes}
use Rattle.attributes.specs.Map.{empty, insert, retain, insert_all}
use Rattle.attributes.specs.Attributes.{Attributes, Changes, changed, changed_by, composed, transformed, reverted, reverted_by}
use Rattle.attributes.specs.Scalar.{Scalar, text_scalar, flag_scalar}

abbrev bold : List ℕ
bold = codes "bold"

abbrev italic : List ℕ
italic = codes "italic"

abbrev color : List ℕ
color = codes "color"

abbrev on : Scalar
on = flag_scalar true

abbrev blue : Scalar
blue = text_scalar (codes "blue")

abbrev red : Scalar
red = text_scalar (codes "red")

abbrev none : Changes
none = empty

abbrev bare : Attributes
bare = empty

-- names given in the order b, a are kept as a, b
kept_in_order : (insert (insert bare (codes "b") on) (codes "a") on).entries ≡ (codes "a", on) ∷ (codes "b", on) ∷ []
unfolding insert
kept_in_order = refl

-- {bold: true} then {italic: true} is both
composed_apart : composed (insert none bold (Some on)) (insert none italic (Some on)) ≡ insert (insert none bold (Some on)) italic (Some on)
unfolding insert insert_all
composed_apart = refl

-- {color: blue} then {color: red} is {color: red}
composed_over : composed (insert none color (Some blue)) (insert none color (Some red)) ≡ insert none color (Some red)
unfolding insert insert_all
composed_over = refl

-- {bold: true} then {bold: null} is {bold: null}: null is kept
composed_null : composed (insert none bold (Some on)) (insert none bold None) ≡ insert none bold None
unfolding insert insert_all
composed_null = refl

-- and on a text with {bold: true} it leaves nothing
changed_null : changed (insert bare bold on) (insert none bold None) ≡ bare
unfolding insert retain changed_by
changed_null = refl

-- {bold: true, color: red} transforms {color: blue, italic: true} to {italic: true} with priority, and leaves it without
transformed_first : transformed (insert (insert none bold (Some on)) color (Some red)) (insert (insert none color (Some blue)) italic (Some on)) true ≡ insert none italic (Some on)
unfolding insert retain
transformed_first = refl

transformed_second : transformed (insert none color (Some red)) (insert none color (Some blue)) false ≡ insert none color (Some blue)
unfolding insert
transformed_second = refl

-- {bold: true} on a text without it goes back by {bold: null}
reverted_new : reverted (insert none bold (Some on)) bare ≡ insert none bold None
unfolding insert reverted_by
reverted_new = refl

-- {bold: null} on a text with {bold: true} goes back by {bold: true}
reverted_null : reverted (insert none bold None) (insert bare bold on) ≡ insert none bold (Some on)
unfolding insert reverted_by
reverted_null = refl

-- {color: red} on a text with {color: blue} goes back by {color: blue}, and on one with {color: red} by nothing
reverted_over : reverted (insert none color (Some red)) (insert bare color blue) ≡ insert none color (Some blue)
unfolding insert reverted_by
reverted_over = refl

reverted_same : reverted (insert none color (Some red)) (insert bare color red) ≡ none
unfolding insert reverted_by
reverted_same = refl

-- a removal of a name that isn't there goes back by nothing
reverted_absent : reverted (insert none bold None) bare ≡ none
unfolding insert reverted_by
reverted_absent = refl
