-- Operations of a delta (quill-delta's README, "Operations"), their lengths, and which neighbours are merged.
use Rattle.std.specs.Prelude.{◌≡◌, ℕ, ◌+◌, ◌≤◌, ◌^◌, Bool, true, false, ◌&&◌, nat_le, List, [], ◌∷◌, ◌++◌, length, Option, Some, None, if◌then◌else◌, refl}
use Rattle.std.specs.Coded.{Coded, code_by, coded×, coded⊎, coded_list, coded_ℕ, coded_option}
use Rattle.std.specs.Bool.{Decides}
use Rattle.std.proofs.Common.{◌⊎◌, inl, inr}
use Rattle.std.proofs.lemmas.Bool.{and_parts, and_from, le-leb, leb-true}
use Rattle.attributes.specs.Map.{empty, map_code}
use Rattle.attributes.specs.Attributes.{Attributes, Changes, changed, composed, same_attributes, same_changes}
use Rattle.attributes.specs.Scalar.{Scalar, scalar_code}

-- insert a text, by its code units, or an embed; keep units, with a change of their attributes; delete units
pub data Operation : Type 0 where
  insert_text : List ℕ → Attributes → Operation
  insert_embed : List ℕ → Scalar → Attributes → Operation
  retain : ℕ → Changes → Operation
  delete : ℕ → Operation

-- how an operation is told from every other
abbrev pub Fields : Type 0
Fields = (List ℕ × Attributes) ⊎ ((List ℕ × (Scalar × Attributes)) ⊎ ((ℕ × Changes) ⊎ ℕ))

abbrev pub fields_of : Operation → Fields
fields_of (insert_text us a) = inl (us, a)
fields_of (insert_embed key value a) = inr (inl (key, (value, a)))
fields_of (retain n c) = inr (inr (inl (n, c)))
fields_of (delete n) = inr (inr (inr n))

abbrev pub of_fields : Fields → Operation
of_fields (inl p) = insert_text p.0 p.1
of_fields (inr (inl p)) = insert_embed p.0 p.1.0 p.1.1
of_fields (inr (inr (inl p))) = retain p.0 p.1
of_fields (inr (inr (inr n))) = delete n

pub of_fields-fields_of : (op : Operation) → of_fields (fields_of op) ≡ op
of_fields-fields_of (insert_text us a) = refl
of_fields-fields_of (insert_embed key value a) = refl
of_fields-fields_of (retain n c) = refl
of_fields-fields_of (delete n) = refl

abbrev pub operation_code : Coded Operation
operation_code =
    code_by Fields (coded⊎ (coded× (coded_list coded_ℕ) (map_code scalar_code)) (coded⊎ (coded× (coded_list coded_ℕ) (coded× scalar_code (map_code scalar_code))) (coded⊎ (coded× coded_ℕ (map_code (coded_option scalar_code))) coded_ℕ))) fields_of of_fields of_fields-fields_of

-- how many units it inserts, keeps or deletes
abbrev pub op_len : Operation → ℕ
op_len (insert_text us a) = length us
op_len (insert_embed key value a) = 1
op_len (retain n c) = n
op_len (delete n) = n

-- an operation, and then a change of the units that it inserts or keeps
abbrev pub then_changed : Operation → Changes → Operation
then_changed (insert_text us a) d = insert_text us (changed a d)
then_changed (insert_embed key value a) d = insert_embed key value (changed a d)
then_changed (retain n c) d = retain n (composed c d)
then_changed (delete n) d = delete n

-- how many units of the document before it stands on
abbrev pub op_base : Operation → ℕ
op_base (insert_text us a) = 0
op_base (insert_embed key value a) = 0
op_base (retain n c) = n
op_base (delete n) = n

-- how many units of the document after it makes up
abbrev pub op_out : Operation → ℕ
op_out (insert_text us a) = length us
op_out (insert_embed key value a) = 1
op_out (retain n c) = n
op_out (delete n) = 0

-- base length: retained and deleted
abbrev pub base_of : List Operation → ℕ
base_of [] = 0
base_of (op ∷ ops) = op_base op + base_of ops

-- output length: inserted and retained
abbrev pub out_of : List Operation → ℕ
out_of [] = 0
out_of (op ∷ ops) = op_out op + out_of ops

-- each of the two lengths is at most 2^48
pub record IsBounded (ops : List Operation) : Type 0 where
  pub base : base_of ops ≤ 2 ^ 48
  pub out : out_of ops ≤ 2 ^ 48

-- the same as a test
abbrev pub is_bounded : List Operation → Bool
is_bounded ops = nat_le (base_of ops) (2 ^ 48) && nat_le (out_of ops) (2 ^ 48)

pub is_bounded-Decides : (ops : List Operation) → Decides (is_bounded ops) (IsBounded ops)
is_bounded-Decides ops = (
  λ t. let parts = and_parts (nat_le (base_of ops) (2 ^ 48)) (nat_le (out_of ops) (2 ^ 48)) t in
      record { base = leb-true _ _ parts.0; out = leb-true _ _ parts.1 },
  λ h. and_from (nat_le (base_of ops) (2 ^ 48)) (nat_le (out_of ops) (2 ^ 48)) (le-leb _ _ h.base) (le-leb _ _ h.out),
)

abbrev pub is_insert : Operation → Bool
is_insert (insert_text us a) = true
is_insert (insert_embed key value a) = true
is_insert (retain n c) = false
is_insert (delete n) = false

abbrev pub is_delete : Operation → Bool
is_delete (delete n) = true
is_delete _ = false

-- a retain without attributes
abbrev pub is_plain : Operation → Bool
is_plain (retain n c) = same_changes c empty
is_plain _ = false

-- one operation for two neighbours: deletes, and text inserts or retains of equal attributes
abbrev pub merged : Operation → Operation → Option Operation
merged (insert_text us a) (insert_text vs b) = if same_attributes a b then Some (insert_text (us ++ vs) a) else None
merged (retain m c) (retain n d) = if same_changes c d then Some (retain (m + n) c) else None
merged (delete m) (delete n) = Some (delete (m + n))
merged _ _ = None
