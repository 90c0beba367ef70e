-- What is printed has no float.
use Rattle.std.proofs.Common.{◌≡◌, ℕ, false, List, [], ◌∷◌, Some, None, refl}
use Rattle.std.specs.Prelude.{pos, negsuc, codes, Option}
use Rattle.serde_json.specs.Data.{Data, Members, no_members, member, string, object, number, unsigned}
use Rattle.serde_json.specs.Written.{has_float, items_have_float, members_have_float}
use Rattle.utf16.specs.Units.{utf8_of}
use Rattle.attributes.specs.Scalar.{Scalar, text_scalar, whole_scalar, flag_scalar}
use Rattle.attributes.specs.Attributes.{Attributes}
use Rattle.delta.specs.Operation.{Operation, insert_text, insert_embed, retain, delete}
use Rattle.optext.specs.Printed.{printed_scalar, printed_change, printed_entries, attributes_member, then_member, printed_operation, printed}
use Rattle.std.proofs.lemmas.Bool.{or_from, or_parts}

has_float-scalar : (value : Scalar) → has_float (printed_scalar value) ≡ false
has_float-scalar (text_scalar text) = refl
has_float-scalar (whole_scalar (pos n)) = refl
has_float-scalar (whole_scalar (negsuc n)) = refl
has_float-scalar (flag_scalar flag) = refl

has_float-change : (value : Option Scalar) → has_float (printed_change value) ≡ false
has_float-change None = refl
has_float-change (Some value) = has_float-scalar value

have_float-entries : {X : Type 0} (printed_value : X → Data) → ((x : X) → has_float (printed_value x) ≡ false) → (entries : List (List ℕ × X))
    → members_have_float (printed_entries printed_value entries) ≡ false
have_float-entries printed_value none [] = refl
have_float-entries printed_value none (e ∷ es) = or_from _ _ (none e.1) (have_float-entries printed_value none es)

have_float-attributes : (members : Members) → members_have_float members ≡ false → members_have_float (attributes_member members) ≡ false
have_float-attributes no_members none = refl
have_float-attributes (member name value others) none = or_from _ _ none refl

have_float-then : (members : Members) (name : List ℕ) (value : Data) → members_have_float members ≡ false → has_float value ≡ false
    → members_have_float (then_member members name value) ≡ false
have_float-then no_members name value none plain = or_from _ _ plain refl
have_float-then (member first x others) name value none plain =
    or_from _ _ (or_parts _ _ none).0 (have_float-then others name value (or_parts _ _ none).1 plain)

has_float-insert : (a : Attributes) (what : Data) → has_float what ≡ false
    → members_have_float (then_member (attributes_member (printed_entries printed_scalar a.entries)) (codes "insert") what) ≡ false
has_float-insert a what plain =
    have_float-then (attributes_member (printed_entries printed_scalar a.entries)) (codes "insert") what
    (have_float-attributes (printed_entries printed_scalar a.entries) (have_float-entries printed_scalar has_float-scalar a.entries)) plain

has_float-operation : (op : Operation) → has_float (printed_operation op) ≡ false
has_float-operation (insert_text units a) = has_float-insert a (string (utf8_of units)) refl
has_float-operation (insert_embed name value a) =
    has_float-insert a (object (member name (printed_scalar value) no_members)) (or_from _ _ (has_float-scalar value) refl)
has_float-operation (retain n c) =
    have_float-then (attributes_member (printed_entries printed_change c.entries)) (codes "retain") (number (unsigned n))
    (have_float-attributes (printed_entries printed_change c.entries) (have_float-entries printed_change has_float-change c.entries)) refl
has_float-operation (delete n) = refl

pub have_float-printed : (ops : List Operation) → items_have_float (printed ops) ≡ false
have_float-printed [] = refl
have_float-printed (op ∷ ops) = or_from _ _ (has_float-operation op) (have_float-printed ops)
