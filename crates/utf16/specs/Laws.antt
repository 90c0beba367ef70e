-- What holds of the code units of any texts.
use Rattle.std.specs.Prelude.{◌≡◌, ℕ, ◌≤◌, List, ◌++◌, length, take, drop, slice_index}
use Rattle.std.specs.Char.{IsScalar}
use Rattle.std.specs.Char.Escape.{encode_utf16}
use Rattle.std.specs.Str.{IsUtf8}
use Rattle.utf16.specs.Units.{units_of, utf8_of, IsHigh, IsLow}

-- the code units of two texts, one after the other
abbrev pub UnitsOfAppend : Type 0
UnitsOfAppend = (a b : List ℕ) → IsUtf8 a → units_of (a ++ b) ≡ units_of a ++ units_of b

-- a text cut in two has its code units cut in two
abbrev pub UnitsOfSplit : Type 0
UnitsOfSplit = (text a b : List ℕ) → IsUtf8 a → text ≡ a ++ b
    → (units_of a ≡ take (length (units_of a)) (units_of text)) × (units_of b ≡ drop (length (units_of a)) (units_of text))

-- the code units of a text give the text back
abbrev pub TextOfUnits : Type 0
TextOfUnits = (text : List ℕ) → IsUtf8 text → utf8_of (units_of text) ≡ text

-- so two texts with the same code units are one text
abbrev pub SameUnits : Type 0
SameUnits = (a b : List ℕ) → IsUtf8 a → IsUtf8 b → units_of a ≡ units_of b → a ≡ b

-- a character above U+FFFF is a high unit and a low one, whatever follows it
abbrev pub PairOfCharacter : Type 0
PairOfCharacter = (c : ℕ) (us : List ℕ) → IsScalar c → 0x1_0000 ≤ c
    → IsHigh (slice_index (encode_utf16 c ++ us) 0) × IsLow (slice_index (encode_utf16 c ++ us) 1)
