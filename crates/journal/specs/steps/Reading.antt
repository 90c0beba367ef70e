-- Reading of numbers and texts on lists: a value with the bytes behind it, or none. Private to the reader's proof.
use Rattle.std.specs.Prelude.{◌≡◌, ℕ, ◌==◌, ◌&&◌, nat_le, nat_lt, if◌then◌else◌, Bool, Option, Some, None, Result, Ok, Err, List, [], ◌∷◌, length, take, drop}
use Rattle.std.specs.Option.{option_and_then}
use Rattle.std.specs.Str.{is_utf8}
use Rattle.std.specs.Int.{Width, w16, byte_len, from_le_bytes}
use Rattle.journal.specs.declared.batch.read_error.ReadError.{ReadError}
use Rattle.journal.specs.declared.batch.read_error.ReadError.TheVariants.{Malformed, NoMemory}

infixl 10 ◌>>=◌
abbrev pub ◌>>=◌ : {A B : Type 0} → Option A → (A → Option B) → Option B
o >>= f = option_and_then f o

-- what a reader answers, seen by view, is what reading gives, unless memory ran out
abbrev pub Fails : {B : Type 0} → ReadError → Option B → Type 0
Fails Malformed read = read ≡ None
Fails NoMemory read = Unit {0}

abbrev pub Gives : {A B : Type 0} → (A → B) → Result A ReadError → Option B → Type 0
Gives view (Ok x) read = read ≡ Some (view x)
Gives view (Err e) read = Fails e read

-- that many bytes
unfoldable pub part_at : ℕ → List ℕ → Option (List ℕ × List ℕ)
part_at count bytes = if nat_le count (length bytes) then Some (take count bytes, drop count bytes) else None

-- a number
unfoldable pub number_at : Width → List ℕ → Option (ℕ × List ℕ)
number_at width bytes = do
  part ← part_at (byte_len width) bytes
  Some (from_le_bytes width part.0, part.1)

-- this number and no other
unfoldable pub fixed_at : Width → ℕ → List ℕ → Option (List ℕ)
fixed_at width wanted bytes = do
  n ← number_at width bytes
  if n.0 == wanted then Some n.1 else None

-- a number of at least the first bound, and below the second
unfoldable pub within_at : Width → ℕ → ℕ → List ℕ → Option (ℕ × List ℕ)
within_at width low high bytes = do
  n ← number_at width bytes
  if nat_le low n.0 && nat_lt n.0 high then Some n else None

-- the first byte
unfoldable pub byte_at : List ℕ → Option (ℕ × List ℕ)
byte_at [] = None
byte_at (first ∷ rest) = Some (first, rest)

-- these bytes, where they are UTF-8
unfoldable pub utf8_at : List ℕ → Option (List ℕ)
utf8_at bytes = if is_utf8 bytes then Some bytes else None

-- a text behind its length
unfoldable pub text_at : Width → List ℕ → Option (List ℕ × List ℕ)
text_at width bytes = do
  count ← number_at width bytes
  part ← part_at count.0 count.1
  text ← utf8_at part.0
  Some (text, part.1)

-- a name behind its length
unfoldable pub name_at : (List ℕ → Bool) → List ℕ → Option (List ℕ × List ℕ)
name_at is_valid bytes = do
  text ← text_at w16 bytes
  if is_valid text.0 then Some text else None
