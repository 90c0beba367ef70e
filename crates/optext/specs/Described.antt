-- Which operation a JSON value describes, and which delta an array of them (quill-delta's README, "Operations": an
-- object with one of `insert`, `retain` and `delete`, and with `attributes` or not on the first two).
use Rattle.std.specs.Prelude.{ℕ, ℤ, ◌+◌, ◌^◌, ◌==◌, nat_lt, if◌then◌else◌, List, [], ◌∷◌, codes, Option, Some, None, option_map, option_and_then, Result, Ok, Err}
use Rattle.serde_json.specs.Data.{Num, unsigned, Data, null, boolean, number, string, object, Items, no_items, item, Members, no_members, member}
use Rattle.serde_json.specs.Find.{get, as_integer, as_object}
use Rattle.serde_json.specs.Events.{items_len, members_len}
use Rattle.serde_json.specs.View.{view}
use Rattle.serde_json.specs.declared.value.Value.{Value}
use denote.Ref.{Bor}
use Rattle.refusal.specs.declared.Refusal.{Refusal}
use Rattle.refusal.specs.declared.Refusal.TheVariants.{BadOps, TooManyOps}
use Rattle.utf16.specs.Units.{units_of}
use Rattle.attributes.specs.Scalar.{Scalar, text_scalar, whole_scalar, flag_scalar, is_exact}
use Rattle.attributes.specs.Map.{Map, empty, insert}
use Rattle.attributes.specs.Attributes.{Attributes, Changes, is_key}
use Rattle.delta.specs.Operation.{Operation, insert_text, insert_embed, retain, delete, is_bounded}
use Rattle.delta.specs.Gaps.{counted}
use Rattle.delta.specs.Normal.{nf}

-- the name that a text is, where it is one
abbrev pub key_of : List ℕ → Option (List ℕ)
key_of name = if is_key name then Some name else None

-- the value that a whole number is, where its magnitude is below 2^53
abbrev pub scalar_of_whole : ℤ → Option Scalar
scalar_of_whole n = if is_exact n then Some (whole_scalar n) else None

-- and a number, where it is whole
abbrev pub scalar_of_number : Num → Option Scalar
scalar_of_number n = option_and_then scalar_of_whole (as_integer n)

-- a value of an attribute or an embed: text, a whole number of a magnitude below 2^53, true or false
abbrev pub scalar_of : Data → Option Scalar
scalar_of (string text) = Some (text_scalar text)
scalar_of (number n) = scalar_of_number n
scalar_of (boolean flag) = Some (flag_scalar flag)
scalar_of _ = None

-- what a change makes of a name: a value, or null, which removes it
abbrev pub change_of : Data → Option (Option Scalar)
change_of null = Some None
change_of value = option_map Some (scalar_of value)

-- a map with an object's members, where each must have a name and a value that may stand there
abbrev pub with_members : {X : Type 0} → (Data → Option X) → Map X → Members → Option (Map X)
with_members value_of m no_members = Some m
with_members value_of m (member name value others) =
    option_and_then
    (λ key. option_and_then (λ x. with_members value_of (insert m key x) others) (value_of value))
    (key_of name)

-- what `attributes` describes: an object, or none where it is left out
abbrev pub described_by : {X : Type 0} → (Data → Option X) → Option Data → Option (Map X)
described_by value_of None = Some empty
described_by value_of (Some (object members)) = with_members value_of empty members
described_by value_of (Some _) = None

-- attributes of an insert, on which null describes nothing, and a change of a retain
abbrev pub attributes_of : Option Data → Option Attributes
attributes_of = described_by scalar_of

abbrev pub changes_of : Option Data → Option Changes
changes_of = described_by change_of

-- a length: a whole number from 0 to 4,294,967,295
abbrev pub length_of : Data → Option ℕ
length_of (number (unsigned n)) = if nat_lt n (2 ^ 32) then Some n else None
length_of _ = None

-- an embed is an object with one member, its name and its value
abbrev pub embed_of : Members → Attributes → Option Operation
embed_of (member name value no_members) a =
    option_and_then (λ x. option_map (λ key. insert_embed key x a) (key_of name)) (scalar_of value)
embed_of _ a = None

-- what is inserted with attributes: text, or an embed
abbrev pub insertion_of : Data → Attributes → Option Operation
insertion_of (string text) a = Some (insert_text (units_of text) a)
insertion_of (object members) a = embed_of members a
insertion_of _ a = None

-- an insert, a retain and a delete by the values of their members
abbrev pub insert_of : Data → Option Data → Option Operation
insert_of what attributes = option_and_then (insertion_of what) (attributes_of attributes)

abbrev pub retain_of : Data → Option Data → Option Operation
retain_of len attributes = option_and_then (λ n. option_map (retain n) (changes_of attributes)) (length_of len)

abbrev pub delete_of : Data → Option Operation
delete_of len = option_map delete (length_of len)

-- the value of a member that is there or not
abbrev pub data_of : Option (Bor Value) → Option Data
data_of found = option_map (λ value. view value.now) found

-- the operation by the members insert, retain, delete and attributes: exactly one of the first three is there, and
-- attributes or not on the first two
abbrev pub operation_by : Option Data → Option Data → Option Data → Option Data → Option Operation
operation_by (Some what) None None attributes = insert_of what attributes
operation_by None (Some len) None attributes = retain_of len attributes
operation_by None None (Some len) None = delete_of len
operation_by _ _ _ _ = None

-- how many members this is, of one that is there or not
abbrev pub presence : Option Data → ℕ
presence None = 0
presence (Some _) = 1

-- how many members an object has, 0 for any other value
abbrev pub members_counted : Option Members → ℕ
members_counted None = 0
members_counted (Some members) = members_len members

abbrev pub member_count : Data → ℕ
member_count value = members_counted (as_object value)

-- the operation that a value describes: an object that has one member, and attributes beside it or not
abbrev pub operation_of : Data → Option Operation
operation_of value =
    let attributes = get (codes "attributes") value in
    if member_count value == 1 + presence attributes
    then operation_by (get (codes "insert") value) (get (codes "retain") value) (get (codes "delete") value) attributes
    else None

-- the operations that an array's items describe; none where one of them describes none
abbrev pub operations_of : Items → Option (List Operation)
operations_of no_items = Some []
operations_of (item first others) =
    option_and_then (λ op. option_map (λ ops. op ∷ ops) (operations_of others)) (operation_of first)

-- the delta of operations, in normal form, where the bound holds
abbrev pub delta_by : Option (List Operation) → Result (List Operation) Refusal
delta_by None = Err BadOps
delta_by (Some ops) = if is_bounded ops then Ok (nf (counted ops)) else Err BadOps

-- the delta of an array, of at most 1,024 items
abbrev pub delta_of : Items → Result (List Operation) Refusal
delta_of items = if nat_lt 1024 (items_len items) then Err TooManyOps else delta_by (operations_of items)
