-- What is printed is read as what it was.
use Rattle.std.specs.Prelude.{◌≡◌, ◌≤◌, ◌<◌, ◌^◌, ℕ, List, length, All, IfSome, Option, Some, Ok}
use Rattle.utf16.specs.Units.{units_of, utf8_of}
use Rattle.attributes.specs.Attributes.{IsKey}
use Rattle.attributes.specs.Scalar.{Scalar, IsExactScalar}
use Rattle.delta.specs.Operation.{Operation, insert_text, insert_embed, retain, delete, IsBounded}
use Rattle.delta.specs.Normal.{IsNormal}
use Rattle.optext.specs.Described.{operation_of, delta_of}
use Rattle.optext.specs.Printed.{printed_operation, printed}

-- a name of 1 to 64 bytes with a value, or with one or null
abbrev pub IsAttribute : List ℕ × Scalar → Type 0
IsAttribute e = IsKey e.0 × IsExactScalar e.1

abbrev pub IsAttributeChange : List ℕ × Option Scalar → Type 0
IsAttributeChange e = IsKey e.0 × IfSome e.1 IsExactScalar

-- these are the code units of a text
abbrev pub AreTextUnits : List ℕ → Type 0
AreTextUnits units = units_of (utf8_of units) ≡ units

-- what an operation inserts or changes is what a message can spell: its text is a text, its names have 1 to 64 bytes,
-- and its whole numbers are exact. Every operation of the program has such a content.
abbrev pub HasSpellableContent : Operation → Type 0
HasSpellableContent (insert_text units a) = AreTextUnits units × All IsAttribute a.entries
HasSpellableContent (insert_embed name value a) = IsKey name × IsExactScalar value × All IsAttribute a.entries
HasSpellableContent (retain n c) = All IsAttributeChange c.entries
HasSpellableContent (delete n) = Unit {0}

-- and its length is one that a message can spell
abbrev pub HasSpellableLength : Operation → Type 0
HasSpellableLength (retain n c) = n < 2 ^ 32
HasSpellableLength (delete n) = n < 2 ^ 32
HasSpellableLength _ = Unit {0}

-- an operation that a message can spell
abbrev pub HasMessageSpelling : Operation → Type 0
HasMessageSpelling op = HasSpellableContent op × HasSpellableLength op

-- such an operation, printed, describes itself
abbrev pub OperationReadsBack : Type 0
OperationReadsBack = (op : Operation) → HasMessageSpelling op → operation_of (printed_operation op) ≡ Some op

-- and a delta of at most 1,024 of them
abbrev pub DeltaReadsBack : Type 0
DeltaReadsBack =
    (ops : List Operation) → IsNormal ops → IsBounded ops → length ops ≤ 1024 → All HasMessageSpelling ops
    → delta_of (printed ops) ≡ Ok ops

-- a delta that is read as itself, printed, where it has at most 1,024 operations and no length of 2^32 or more
abbrev pub IsReadBack : List Operation → Type 0
IsReadBack ops = length ops ≤ 1024 → All HasSpellableLength ops → delta_of (printed ops) ≡ Ok ops
