-- Code units counted over the bytes of UTF-8: those of a character at its first byte (RFC 3629, 3).
use Rattle.std.specs.Prelude.{ℕ, ◌+◌, Bool, ◌&&◌, nat_le, nat_lt, if◌then◌else◌, List, [], ◌∷◌}

-- the byte continues a character
abbrev pub continues : ℕ → Bool
continues byte = nat_le 0x80 byte && nat_lt byte 0xC0

-- the code units of the character that begins with the byte: two from F0 on, where it has four bytes
abbrev pub begun : ℕ → ℕ
begun byte = if continues byte then 0 else if nat_le 0xF0 byte then 2 else 1

-- those of all characters that begin among the bytes
abbrev pub begun_in : List ℕ → ℕ
begun_in [] = 0
begun_in (byte ∷ bytes) = begun byte + begun_in bytes
