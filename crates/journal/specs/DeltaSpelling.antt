-- How the journal spells a delta. Numbers are little-endian, and a text is given by its bytes of UTF-8.
use Rattle.std.specs.Prelude.{ℕ, true, false, Option, Some, None, List, [], ◌∷◌, ◌++◌, length}
use Rattle.std.specs.List.{flat_map}
use Rattle.std.specs.Int.{w32, w64, cast_unsigned}
use Rattle.utf16.specs.Units.{utf8_of}
use Rattle.attributes.specs.Scalar.{Scalar, text_scalar, whole_scalar, flag_scalar}
use Rattle.delta.specs.Operation.{Operation, insert_text, insert_embed, retain, delete}
use Rattle.journal.specs.Spelling.{number, text16, text32}

-- a value behind its tag: 1 for false, 2 for true, 3 for a whole number in two's complement, 4 for a text
unfoldable pub value : Scalar → List ℕ
value (flag_scalar false) = 1 ∷ []
value (flag_scalar true) = 2 ∷ []
value (whole_scalar n) = 3 ∷ number w64 (cast_unsigned w64 n)
value (text_scalar text) = 4 ∷ text32 text

-- what a change makes of a name: 0 where it removes the name, else the new value
unfoldable pub new_value : Option Scalar → List ℕ
new_value None = 0 ∷ []
new_value (Some v) = value v

-- a name and what stands at it, spelled as is said
unfoldable pub pair : {X : Type 0} → (X → List ℕ) → List ℕ × X → List ℕ
pair spell p = text16 p.0 ++ spell p.1

-- names, with what stands at each, behind their count
unfoldable pub pairs : {X : Type 0} → (X → List ℕ) → List (List ℕ × X) → List ℕ
pairs spell all = number w32 (length all) ++ flat_map (pair spell) all

-- an operation behind its tag: 1 inserts a text, 2 inserts an embed, 3 retains, 4 deletes
unfoldable pub operation : Operation → List ℕ
operation (insert_text units attributes) = 1 ∷ text32 (utf8_of units) ++ pairs value attributes.entries
operation (insert_embed name v attributes) = 2 ∷ text16 name ++ value v ++ pairs value attributes.entries
operation (retain n change) = 3 ∷ number w64 n ++ pairs new_value change.entries
operation (delete n) = 4 ∷ number w64 n

-- the operations in order, behind their count
unfoldable pub delta : List Operation → List ℕ
delta operations = number w32 (length operations) ++ flat_map operation operations
