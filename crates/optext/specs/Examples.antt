-- What values describe, and how operations are printed, computed.
use Rattle.std.specs.Prelude.{◌≡◌, ℕ, zero, suc, pos, negsuc, true, List, [], ◌∷◌, replicate, codes, Some, None, Ok, Err, refl}
use Rattle.std.specs.Str.{chars, is_utf8}
use Rattle.std.specs.Char.{encode_utf8}
use Rattle.std.specs.Char.Utf16.{utf16_chars}
use Rattle.serde_json.proofs.OnLiterals.{serde_json_on_literals}
use Rattle.serde_json.specs.Data.{Data, null, boolean, number, string, array, object, unsigned, negative, Items, no_items, item, no_members, member}
use Rattle.refusal.specs.declared.Refusal.TheVariants.{BadOps, TooManyOps}
use Rattle.attributes.specs.Scalar.{text_scalar, whole_scalar, flag_scalar}
use Rattle.attributes.specs.Map.{empty, insert}
use Rattle.attributes.specs.Attributes.{Attributes, Changes}
use Rattle.delta.specs.Operation.{insert_text, insert_embed, retain, delete}
use Rattle.optext.specs.Described.{member_count, operation_of, scalar_of, delta_of}
use Rattle.optext.specs.Json.{value_of}
use Rattle.optext.specs.Printed.{printed_operation}

abbrev bare : Attributes
bare = empty

abbrev plain : Changes
plain = empty

-- an object with one member, and one with two
abbrev one : List ℕ → Data → Data
one name value = object (member name value no_members)

abbrev two : List ℕ → Data → List ℕ → Data → Data
two name value other more = object (member name value (member other more no_members))

abbrev whole : ℕ → Data
whole n = number (unsigned n)

-- the values of texts, and bytes that are none: a word, no UTF-8, nothing
text_of_one : value_of (codes "{\"delete\":5}") ≡ Some (one (codes "delete") (whole 5))
unfolding serde_json_on_literals is_utf8 chars
text_of_one = refl

text_of_none : value_of (codes "[]") ≡ Some (array no_items)
unfolding serde_json_on_literals is_utf8 chars
text_of_none = refl

no_json : value_of (codes "x") ≡ None
unfolding serde_json_on_literals is_utf8 chars
no_json = refl

no_utf8 : value_of (34 ∷ 255 ∷ 34 ∷ []) ≡ None
unfolding serde_json_on_literals is_utf8 chars
no_utf8 = refl

no_text : value_of [] ≡ None
unfolding serde_json_on_literals is_utf8 chars
no_text = refl

-- an object's members, and those of an array of two
two_members : member_count (two (codes "a") null (codes "b") null) ≡ 2
two_members = refl

no_members_counted : member_count (array (item null (item null no_items))) ≡ 0
no_members_counted = refl

-- {"insert":"ab"}
text : operation_of (one (codes "insert") (string (codes "ab"))) ≡ Some (insert_text (codes "ab") bare)
unfolding chars
text = refl

-- {"attributes":{"bold":true},"insert":"ab"}
bold_text : operation_of (two (codes "attributes") (one (codes "bold") (boolean true)) (codes "insert") (string (codes "ab")))
    ≡ Some (insert_text (codes "ab") (insert empty (codes "bold") (flag_scalar true)))
unfolding chars
bold_text = refl

-- {"insert":{"image":"a.png"}}
image : operation_of (one (codes "insert") (one (codes "image") (string (codes "a.png")))) ≡ Some (insert_embed (codes "image") (text_scalar (codes "a.png")) bare)
image = refl

-- {"attributes":{"bold":null},"retain":3}
unbold : operation_of (two (codes "attributes") (one (codes "bold") null) (codes "retain") (whole 3)) ≡ Some (retain 3 (insert empty (codes "bold") None))
unbold = refl

-- {"attributes":{},"retain":0} and {"retain":4294967295}
nothing_kept : operation_of (two (codes "attributes") (object no_members) (codes "retain") (whole 0)) ≡ Some (retain 0 plain)
nothing_kept = refl

longest : operation_of (one (codes "retain") (whole 4294967295)) ≡ Some (retain 4294967295 plain)
longest = refl

-- {"delete":5}
five_deleted : operation_of (one (codes "delete") (whole 5)) ≡ Some (delete 5)
five_deleted = refl

-- two of insert, retain and delete; none of them; another member; attributes on a delete
two_at_once : operation_of (two (codes "delete") (whole 1) (codes "insert") (string (codes "a"))) ≡ None
two_at_once = refl

nothing_said : operation_of (object no_members) ≡ None
nothing_said = refl

attributes_alone : operation_of (one (codes "attributes") (object no_members)) ≡ None
attributes_alone = refl

another_member : operation_of (two (codes "insert") (string (codes "a")) (codes "note") null) ≡ None
another_member = refl

delete_with_attributes : operation_of (two (codes "attributes") (object no_members) (codes "delete") (whole 1)) ≡ None
delete_with_attributes = refl

-- null on an insert; attributes that are no object; a value that is a list; an embed of null or with two members
null_on_insert : operation_of (two (codes "attributes") (one (codes "bold") null) (codes "insert") (string (codes "a"))) ≡ None
null_on_insert = refl

attributes_null : operation_of (two (codes "attributes") null (codes "retain") (whole 1)) ≡ None
attributes_null = refl

list_value : operation_of (two (codes "attributes") (one (codes "bold") (array no_items)) (codes "retain") (whole 1)) ≡ None
list_value = refl

null_embedded : operation_of (one (codes "insert") (one (codes "image") null)) ≡ None
null_embedded = refl

two_embedded : operation_of (one (codes "insert") (two (codes "a") (whole 1) (codes "b") (whole 2))) ≡ None
two_embedded = refl

-- a length that is 2^32, below 0, or text; an insert that is a number
too_long : operation_of (one (codes "delete") (whole 4294967296)) ≡ None
too_long = refl

below_zero : operation_of (one (codes "retain") (number (negative (negsuc 0)))) ≡ None
below_zero = refl

spelled_length : operation_of (one (codes "retain") (string (codes "1"))) ≡ None
spelled_length = refl

number_inserted : operation_of (one (codes "insert") (whole 1)) ≡ None
number_inserted = refl

-- whole numbers at 2^53, on both sides
greatest : scalar_of (whole 9007199254740991) ≡ Some (whole_scalar (pos 9007199254740991))
greatest = refl

past_greatest : scalar_of (whole 9007199254740992) ≡ None
past_greatest = refl

least : scalar_of (number (negative (negsuc 9007199254740990))) ≡ Some (whole_scalar (negsuc 9007199254740990))
least = refl

past_least : scalar_of (number (negative (negsuc 9007199254740991))) ≡ None
past_least = refl

-- a name of 64 bytes, of 65, and without a byte
abbrev marked : List ℕ → Data
marked name = two (codes "attributes") (one name (boolean true)) (codes "retain") (whole 1)

longest_name : operation_of (marked (replicate 64 97)) ≡ Some (retain 1 (insert empty (replicate 64 97) (Some (flag_scalar true))))
longest_name = refl

too_long_name : operation_of (marked (replicate 65 97)) ≡ None
too_long_name = refl

no_name : operation_of (marked []) ≡ None
no_name = refl

-- [{"delete":2},{"insert":"x"},{"retain":0},{"insert":""}] is ins "x", del 2
read_as : delta_of (item (one (codes "delete") (whole 2)) (item (one (codes "insert") (string (codes "x"))) (item (one (codes "retain") (whole 0)) (item (one (codes "insert") (string [])) no_items))))
    ≡ Ok (insert_text (codes "x") bare ∷ delete 2 ∷ [])
unfolding chars
read_as = refl

-- [{"delete":2},null]
refused : delta_of (item (one (codes "delete") (whole 2)) (item null no_items)) ≡ Err BadOps
refused = refl

-- n items that describe nothing; 1,025 items are too many, whatever they are
abbrev nulls : ℕ → Items
nulls zero = no_items
nulls (suc n) = item null (nulls n)

most_items : delta_of (nulls 1024) ≡ Err BadOps
most_items = refl

too_many_items : delta_of (nulls 1025) ≡ Err TooManyOps
too_many_items = refl

-- {"attributes":{"bold":true},"insert":"!"} and {"attributes":{"bold":null},"retain":1}
printed_bold : printed_operation (insert_text (codes "!") (insert empty (codes "bold") (flag_scalar true)))
    ≡ two (codes "attributes") (one (codes "bold") (boolean true)) (codes "insert") (string (codes "!"))
unfolding insert utf16_chars encode_utf8
printed_bold = refl

printed_unbold : printed_operation (retain 1 (insert empty (codes "bold") None)) ≡ two (codes "attributes") (one (codes "bold") null) (codes "retain") (whole 1)
unfolding insert
printed_unbold = refl

printed_plain : printed_operation (retain 6 plain) ≡ one (codes "retain") (whole 6)
printed_plain = refl

printed_delete : printed_operation (delete 5) ≡ one (codes "delete") (whole 5)
printed_delete = refl
