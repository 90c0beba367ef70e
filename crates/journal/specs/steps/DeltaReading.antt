-- Reading of the spelling of deltas on lists: a value with the bytes behind it, or none. Private to the reader's proof.
use Rattle.std.specs.Prelude.{ℕ, zero, suc, ◌==◌, nat_lt, ◌&&◌, not, if◌then◌else◌, Bool, true, false, Option, Some, None, List, [], ◌∷◌, ◌++◌}
use Rattle.std.specs.Int.{w32, w64, cast_signed}
use Rattle.std.specs.Ordering.{is_lt}
use Rattle.utf16.specs.Units.{units_of}
use Rattle.attributes.specs.Map.{Map, empty, insert, by_bytes}
use Rattle.attributes.specs.Attributes.{Attributes, Changes, is_key}
use Rattle.attributes.specs.Scalar.{Scalar, text_scalar, whole_scalar, flag_scalar, is_exact}
use Rattle.delta.specs.Operation.{Operation, insert_text, insert_embed, retain, delete, op_len, is_plain, is_bounded}
use Rattle.delta.specs.Normal.{is_built, ends_plain, may_precede}
use Rattle.journal.specs.steps.Reading.{◌>>=◌, number_at, text_at, name_at, byte_at}

unfoldable pub whole_at : List ℕ → Option (Scalar × List ℕ)
whole_at bytes = do
  bits ← number_at w64 bytes
  if is_exact (cast_signed w64 bits.0) then Some (whole_scalar (cast_signed w64 bits.0), bits.1) else None

unfoldable pub text_value_at : List ℕ → Option (Scalar × List ℕ)
text_value_at bytes = do
  text ← text_at w32 bytes
  Some (text_scalar text.0, text.1)

-- the value that stands behind a tag
unfoldable pub value_behind : ℕ → List ℕ → Option (Scalar × List ℕ)
value_behind tag bytes =
    if tag == 1 then Some (flag_scalar false, bytes)
    else if tag == 2 then Some (flag_scalar true, bytes)
    else if tag == 3 then whole_at bytes
    else if tag == 4 then text_value_at bytes
    else None

unfoldable pub value_at : List ℕ → Option (Scalar × List ℕ)
value_at bytes = do
  tag ← byte_at bytes
  value_behind tag.0 tag.1

-- a new value, or that there is none any more
unfoldable pub new_value_behind : ℕ → List ℕ → Option (Option Scalar × List ℕ)
new_value_behind zero bytes = Some (None, bytes)
new_value_behind (suc n) bytes = do
  value ← value_behind (suc n) bytes
  Some (Some value.0, value.1)

unfoldable pub new_value_at : List ℕ → Option (Option Scalar × List ℕ)
new_value_at bytes = do
  tag ← byte_at bytes
  new_value_behind tag.0 tag.1

-- a name of an attribute or an embed
unfoldable pub key_at : List ℕ → Option (List ℕ × List ℕ)
key_at bytes = name_at is_key bytes

-- a name above the one before it
unfoldable pub key_above : List ℕ → List ℕ → Option (List ℕ × List ℕ)
key_above last bytes = do
  name ← key_at bytes
  if is_lt (by_bytes last name.0) then Some name else None

-- a name above the one before it, and what stands at it
unfoldable pub pair_at : {X : Type 0} → (List ℕ → Option (X × List ℕ)) → List ℕ → List ℕ → Option ((List ℕ × X) × List ℕ)
pair_at read last bytes = do
  name ← key_above last bytes
  value ← read name.1
  Some ((name.0, value.0), value.1)

-- so many more of them, put to those that were read
unfoldable pub pairs_at : {X : Type 0} → (List ℕ → Option (X × List ℕ)) → ℕ → List ℕ → Map X → List ℕ → Option (Map X × List ℕ)
pairs_at read zero last front bytes = Some (front, bytes)
pairs_at read (suc n) last front bytes = do
  pair ← pair_at read last bytes
  pairs_at read n pair.0.0 (insert front pair.0.0 pair.0.1) pair.1

unfoldable pub attributes_at : List ℕ → Option (Attributes × List ℕ)
attributes_at bytes = do
  count ← number_at w32 bytes
  pairs_at value_at count.0 [] empty count.1

unfoldable pub change_at : List ℕ → Option (Changes × List ℕ)
change_at bytes = do
  count ← number_at w32 bytes
  pairs_at new_value_at count.0 [] empty count.1

-- an insert of a text, an insert of an embed, a retain, a delete
unfoldable pub text_insert_at : List ℕ → Option (Operation × List ℕ)
text_insert_at bytes = do
  text ← text_at w32 bytes
  attributes ← attributes_at text.1
  Some (insert_text (units_of text.0) attributes.0, attributes.1)

unfoldable pub embed_insert_at : List ℕ → Option (Operation × List ℕ)
embed_insert_at bytes = do
  name ← key_at bytes
  value ← value_at name.1
  attributes ← attributes_at value.1
  Some (insert_embed name.0 value.0 attributes.0, attributes.1)

unfoldable pub retain_at : List ℕ → Option (Operation × List ℕ)
retain_at bytes = do
  n ← number_at w64 bytes
  change ← change_at n.1
  Some (retain n.0 change.0, change.1)

unfoldable pub delete_at : List ℕ → Option (Operation × List ℕ)
delete_at bytes = do
  n ← number_at w64 bytes
  Some (delete n.0, n.1)

-- the operation that stands behind a tag
unfoldable pub operation_behind : ℕ → List ℕ → Option (Operation × List ℕ)
operation_behind tag bytes =
    if tag == 1 then text_insert_at bytes
    else if tag == 2 then embed_insert_at bytes
    else if tag == 3 then retain_at bytes
    else if tag == 4 then delete_at bytes
    else None

unfoldable pub operation_at : List ℕ → Option (Operation × List ℕ)
operation_at bytes = do
  tag ← byte_at bytes
  operation_behind tag.0 tag.1

-- so many more of them, behind those that were read
unfoldable pub operations_at : ℕ → List Operation → List ℕ → Option (List Operation × List ℕ)
operations_at zero front bytes = Some (front, bytes)
operations_at (suc n) front bytes = do
  first ← operation_at bytes
  operations_at n (front ++ first.0 ∷ []) first.1

-- normal form, as a test
abbrev pub is_normal : List Operation → Bool
is_normal operations = is_built operations && not (ends_plain operations)

-- the first operation may stand before the others
abbrev pub begins_normal : List Operation → Bool
begins_normal [] = true
begins_normal (op ∷ []) = nat_lt 0 (op_len op) && not (is_plain op)
begins_normal (op ∷ next ∷ ops) = nat_lt 0 (op_len op) && may_precede op next

-- the operations, where they are in normal form and within the bound
unfoldable pub delta_of : List Operation → Option (List Operation)
delta_of operations = if is_normal operations && is_bounded operations then Some operations else None

unfoldable pub delta_at : List ℕ → Option (List Operation × List ℕ)
delta_at bytes = do
  count ← number_at w32 bytes
  read ← operations_at count.0 [] count.1
  operations ← delta_of read.0
  Some (operations, read.1)
