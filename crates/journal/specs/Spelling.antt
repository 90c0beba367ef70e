-- How the journal spells numbers and texts. Numbers are little-endian.
use Rattle.std.specs.Prelude.{ℕ, List, ◌++◌, length}
use Rattle.std.specs.Int.{Width, w16, w32, to_le_bytes}

-- a number, in as many bytes as the width has
unfoldable pub number : Width → ℕ → List ℕ
number width n = to_le_bytes width n

-- a text of less than 2^16 bytes, behind its length
unfoldable pub text16 : List ℕ → List ℕ
text16 text = number w16 (length text) ++ text

-- a text of less than 2^32 bytes, behind its length
unfoldable pub text32 : List ℕ → List ℕ
text32 text = number w32 (length text) ++ text
