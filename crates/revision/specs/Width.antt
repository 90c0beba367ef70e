-- How many bytes a delta takes in the journal: a number in as many bytes as it is given, a text behind its length, a list
-- behind its count, and an operation behind its tag.
use Rattle.std.specs.Prelude.{ℕ, ◌+◌, Option, Some, None, List, length, sum_by}
use Rattle.utf16.specs.Units.{utf8_of}
use Rattle.attributes.specs.Scalar.{Scalar, text_scalar, whole_scalar, flag_scalar}
use Rattle.delta.specs.Operation.{Operation, insert_text, insert_embed, retain, delete}

abbrev pub value_width : Scalar → ℕ
value_width (flag_scalar b) = 1
value_width (whole_scalar n) = 9
value_width (text_scalar text) = 5 + length text

abbrev pub new_value_width : Option Scalar → ℕ
new_value_width None = 1
new_value_width (Some v) = value_width v

-- a name and what stands at it, whose width is given
abbrev pub pair_width : {X : Type 0} → (X → ℕ) → List ℕ × X → ℕ
pair_width width p = 2 + length p.0 + width p.1

abbrev pub pairs_width : {X : Type 0} → (X → ℕ) → List (List ℕ × X) → ℕ
pairs_width width all = 4 + sum_by (pair_width width) all

abbrev pub operation_width : Operation → ℕ
operation_width (insert_text units attributes) = 5 + length (utf8_of units) + pairs_width value_width attributes.entries
operation_width (insert_embed name v attributes) = 3 + length name + value_width v + pairs_width value_width attributes.entries
operation_width (retain n change) = 9 + pairs_width new_value_width change.entries
operation_width (delete n) = 9

abbrev pub delta_width : List Operation → ℕ
delta_width operations = 4 + sum_by operation_width operations
