-- How operations are printed as JSON: members in ascending order, so that `attributes` stands before `delete`, `insert`
-- and `retain`, and is left out where there are none.
use Rattle.std.specs.Prelude.{ℕ, List, [], ◌∷◌, map, codes, Option, Some, None}
use Rattle.serde_json.specs.Data.{Data, null, boolean, number, string, object, unsigned, Items, Members, no_members, member}
use Rattle.serde_json.specs.Find.{of_integer}
use Rattle.serde_json.specs.View.{items_of}
use Rattle.utf16.specs.Units.{utf8_of}
use Rattle.attributes.specs.Scalar.{Scalar, text_scalar, whole_scalar, flag_scalar}
use Rattle.attributes.specs.Attributes.{Attributes, Changes}
use Rattle.delta.specs.Operation.{Operation, insert_text, insert_embed, retain, delete}

-- a value
abbrev pub printed_scalar : Scalar → Data
printed_scalar (text_scalar text) = string text
printed_scalar (whole_scalar n) = number (of_integer n)
printed_scalar (flag_scalar flag) = boolean flag

-- null removes a name
abbrev pub printed_change : Option Scalar → Data
printed_change None = null
printed_change (Some value) = printed_scalar value

-- names with their values, in the same order
abbrev pub printed_entries : {X : Type 0} → (X → Data) → List (List ℕ × X) → Members
printed_entries printed_value [] = no_members
printed_entries printed_value (e ∷ es) = member e.0 (printed_value e.1) (printed_entries printed_value es)

-- the member `attributes`, where there are any
abbrev pub attributes_member : Members → Members
attributes_member no_members = no_members
attributes_member attributes = member (codes "attributes") (object attributes) no_members

-- an object with one member more, after those
abbrev pub then_member : Members → List ℕ → Data → Members
then_member no_members name value = member name value no_members
then_member (member first x others) name value = member first x (then_member others name value)

-- attributes, and a change of them
abbrev pub printed_attributes : Attributes → Members
printed_attributes a = printed_entries printed_scalar a.entries

abbrev pub printed_changes : Changes → Members
printed_changes c = printed_entries printed_change c.entries

-- an embed
abbrev pub printed_embed : List ℕ → Scalar → Data
printed_embed name value = object (member name (printed_scalar value) no_members)

-- an insert of a printed text or embed, and a retain
abbrev pub printed_insert : Attributes → Data → Data
printed_insert a what = object (then_member (attributes_member (printed_attributes a)) (codes "insert") what)

abbrev pub printed_retain : Changes → ℕ → Data
printed_retain c n = object (then_member (attributes_member (printed_changes c)) (codes "retain") (number (unsigned n)))

-- an operation: its text is the one whose code units it inserts
abbrev pub printed_operation : Operation → Data
printed_operation (insert_text units a) = printed_insert a (string (utf8_of units))
printed_operation (insert_embed name value a) = printed_insert a (printed_embed name value)
printed_operation (retain n c) = printed_retain c n
printed_operation (delete n) = object (member (codes "delete") (number (unsigned n)) no_members)

-- the items of the array that prints operations
abbrev pub printed : List Operation → Items
printed ops = items_of (map printed_operation ops)
