-- The definitions, computed on small texts.
use Rattle.std.specs.Prelude.{◌≡◌, ℕ, List, [], ◌∷◌, refl, length, encode_utf8_all}
use Rattle.std.specs.Str.{chars}
use Rattle.std.proofs.Common.{lit<}
use Rattle.std.specs.Char.{encode_utf8}
use Rattle.std.specs.Char.Utf16.{utf16_chars}
use Rattle.utf16.specs.Units.{units_of, utf8_of, IsInPair}

-- "a😀b", whose middle character is U+1F600
abbrev a_smile_b : List ℕ
a_smile_b = encode_utf8_all (97 ∷ 0x1F600 ∷ 98 ∷ [])

units_of_a_smile_b : units_of a_smile_b ≡ 97 ∷ 0xD83D ∷ 0xDE00 ∷ 98 ∷ []
unfolding chars encode_utf8
units_of_a_smile_b = refl

-- it has 4 code units
length-units_of_a_smile_b : length (units_of a_smile_b) ≡ 4
unfolding chars encode_utf8
length-units_of_a_smile_b = refl

-- a cut at 2 parts its pair
parted : IsInPair (97 ∷ 0xD83D ∷ 0xDE00 ∷ 98 ∷ []) 2
parted = (lit< tt, refl, refl)

-- its code units give the text back
utf8_of_a_smile_b : utf8_of (97 ∷ 0xD83D ∷ 0xDE00 ∷ 98 ∷ []) ≡ a_smile_b
unfolding utf16_chars encode_utf8
utf8_of_a_smile_b = refl
