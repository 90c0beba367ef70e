-- Whether a gap form cuts a surrogate pair, as a test that computes.
use Rattle.std.specs.Prelude.{Bool, true, false, not, ◌&&◌, ◌||◌, List, [], ◌∷◌}
use Rattle.std.specs.Char.Utf16.{is_high_surrogate, is_low_surrogate}
use Rattle.attributes.specs.Attributes.{same_attributes, same_changes}
use Rattle.delta.specs.Element.{Element, Item, code_unit}
use Rattle.delta.specs.Gaps.{Gaps, End, Gap, Fate, Del, Keep}
use Rattle.compose.specs.Places.{inserts, fate, tail}
use Rattle.compose.specs.Composed.{beyond}

abbrev pub are_high_and_low : Item → Item → Bool
are_high_and_low (code_unit u) (code_unit v) = is_high_surrogate u && is_low_surrogate v
are_high_and_low _ _ = false

-- a high unit and a low unit of equal attributes
abbrev pub is_pair : Element → Element → Bool
is_pair x y = are_high_and_low x.item y.item && same_attributes x.attributes y.attributes

abbrev pub same_fate : Fate → Fate → Bool
same_fate Del Del = true
same_fate (Keep c) (Keep d) = same_changes c d
same_fate _ _ = false

abbrev pub is_nothing : List Element → Bool
is_nothing [] = true
is_nothing (x ∷ xs) = false

-- a unit of this fate, and the next one, fare differently, or something is inserted between them
abbrev pub parts : Fate → Gaps → Bool
parts f b = not (same_fate f (fate b) && is_nothing (inserts b))

-- the last of these units and the next one are parted
abbrev pub is_parted : Element → List Element → Gaps → Bool
is_parted x [] b = false
is_parted x (y ∷ ys) b = is_pair x y && parts (fate b) (tail b)

-- a gap form cuts a pair of the units that it stands over
abbrev pub cuts_units : List Element → Gaps → Bool
cuts_units [] b = false
cuts_units (x ∷ xs) b = is_parted x xs b || cuts_units xs (tail b)

-- the second gap form cuts a pair of units that the first inserts at one place
abbrev pub cuts : Gaps → Gaps → Bool
cuts (End xs) b = cuts_units xs b
cuts (Gap xs Del g) b = cuts_units xs b || cuts g (beyond xs b)
cuts (Gap xs (Keep c) g) b = cuts_units xs b || cuts g (tail (beyond xs b))
