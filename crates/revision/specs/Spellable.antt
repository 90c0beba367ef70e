-- What the journal can spell: names, texts and lists whose sizes fit their counts, and deltas in normal form within the bound.
use Rattle.std.specs.Prelude.{◌≡◌, ℕ, ◌<◌, ◌^◌, true, Option, Some, None, List, length, All}
use Rattle.std.specs.Str.{is_utf8}
use Rattle.utf16.specs.Units.{units_of, utf8_of}
use Rattle.attributes.specs.Scalar.{Scalar, text_scalar, whole_scalar, flag_scalar, IsExact}
use Rattle.attributes.specs.Attributes.{IsKey}
use Rattle.delta.specs.Operation.{Operation, insert_text, insert_embed, retain, delete, IsBounded}
use Rattle.delta.specs.Normal.{IsNormal}

-- a value that can be spelled: a text of less than 2^32 bytes of UTF-8, an exact number, true or false
abbrev pub IsValue : Scalar → Type 0
IsValue (flag_scalar b) = Unit {0}
IsValue (whole_scalar n) = IsExact n
IsValue (text_scalar text) = (length text < 2 ^ 32) × (is_utf8 text ≡ true)

abbrev pub IsNewValue : Option Scalar → Type 0
IsNewValue None = Unit {0}
IsNewValue (Some v) = IsValue v

-- a name of 1 to 64 bytes of UTF-8
pub record IsName (name : List ℕ) : Type 0 where
  pub key : IsKey name
  pub valid : is_utf8 name ≡ true

-- a name and what stands at it
pub record IsPair {X : Type 0} (IsX : X → Type 0) (p : List ℕ × X) : Type 0 where
  pub name : IsName p.0
  pub value : IsX p.1

-- less than 2^32 names, with what stands at each
pub record IsPairs {X : Type 0} (IsX : X → Type 0) (all : List (List ℕ × X)) : Type 0 where
  pub count : length all < 2 ^ 32
  pub each : All (IsPair IsX) all

-- the code units of a text of less than 2^32 bytes of UTF-8
pub record IsText (units : List ℕ) : Type 0 where
  pub back : units_of (utf8_of units) ≡ units
  pub valid : is_utf8 (utf8_of units) ≡ true
  pub short : length (utf8_of units) < 2 ^ 32

-- an operation that can be spelled
abbrev pub IsOperation : Operation → Type 0
IsOperation (insert_text units attributes) = IsText units × IsPairs IsValue attributes.entries
IsOperation (insert_embed name v attributes) = IsName name × IsValue v × IsPairs IsValue attributes.entries
IsOperation (retain n change) = (n < 2 ^ 64) × IsPairs IsNewValue change.entries
IsOperation (delete n) = n < 2 ^ 64

-- a delta that has a spelling: less than 2^32 operations that can be spelled, in normal form and within the bound of 2^48
pub record IsSpellable (operations : List Operation) : Type 0 where
  pub normal : IsNormal operations
  pub bounded : IsBounded operations
  pub count : length operations < 2 ^ 32
  pub each : All IsOperation operations
