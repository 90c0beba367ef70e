-- UTF-16 code units of a text (Unicode, D91 and table 3-5; RFC 2781, 2.1 and 2.2). A text is seen as its bytes of UTF-8.
use Rattle.std.specs.Prelude.{ℕ, ◌-◌, ◌<◌, IsTrue, List, slice_index, encode_utf8_all}
use Rattle.std.specs.List.{flat_map}
use Rattle.std.specs.Str.{chars}
use Rattle.std.specs.Char.Escape.{encode_utf16}
use Rattle.std.specs.Char.Utf16.{is_high_surrogate, is_low_surrogate, utf16_lossy_chars}

-- the code units of characters: one below U+10000, else a high one and a low one
abbrev pub units_of_chars : List ℕ → List ℕ
units_of_chars cs = flat_map encode_utf16 cs

-- the code units of a text
abbrev pub units_of : List ℕ → List ℕ
units_of text = units_of_chars (chars text)

-- the first unit of a pair, D800 to DBFF
abbrev pub IsHigh : ℕ → Type 0
IsHigh u = IsTrue (is_high_surrogate u)

-- the second unit of a pair, DC00 to DFFF
abbrev pub IsLow : ℕ → Type 0
IsLow u = IsTrue (is_low_surrogate u)

-- the place lies between the two units of a pair
abbrev pub IsInPair : List ℕ → ℕ → Type 0
IsInPair units at = (0 < at) × IsHigh (slice_index units (at - 1)) × IsLow (slice_index units at)

-- the text whose code units these are, where each pair is whole
abbrev pub utf8_of : List ℕ → List ℕ
utf8_of units = encode_utf8_all (utf16_lossy_chars units)
