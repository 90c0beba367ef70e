-- What holds of operations in two parts, and of the first of a list in normal form and the others.
use Rattle.std.specs.Prelude.{◌≡◌, ℕ, suc, ◌+◌, ◌<◌, ◌≤◌, IsTrue, not, List, ◌∷◌, ◌++◌, length}
use Rattle.attributes.specs.Attributes.{Attributes, Changes}
use Rattle.delta.specs.Operation.{Operation, insert_text, retain, op_len, op_base, base_of}
use Rattle.delta.specs.Gaps.{counted}
use Rattle.delta.specs.Normal.{IsNormal, NoneIsEmpty, is_built, ends_plain, may_lead, is_apart_text, is_apart_retain}
use Rattle.delta.specs.Parts.{first_units, last_units, left_after}

-- what is left: the other units, or nothing of the operation
abbrev pub LeftWithin : Type 0
LeftWithin = (n : ℕ) (op : Operation) (ops : List Operation) → n < op_len op → left_after n op ops ≡ last_units n op ∷ ops

abbrev pub LeftBeyond : Type 0
LeftBeyond = (n : ℕ) (op : Operation) (ops : List Operation) → op_len op ≤ n → left_after n op ops ≡ ops

abbrev pub LeftOfWhole : Type 0
LeftOfWhole = (op : Operation) (ops : List Operation) → left_after (op_len op) op ops ≡ ops

abbrev pub LeftBeforeMore : Type 0
LeftBeforeMore = (n : ℕ) (op : Operation) (ops more : List Operation) → left_after n op ops ++ more ≡ left_after n op (ops ++ more)

-- all units of an operation are the operation
abbrev pub FirstOfWhole : Type 0
FirstOfWhole = (op : Operation) → first_units (op_len op) op ≡ op

-- both parts do what the operation does
abbrev pub CountedInParts : Type 0
CountedInParts = (n : ℕ) (op : Operation) (ops : List Operation) → 0 < n → n ≤ op_len op → counted (op ∷ ops) ≡ counted (first_units n op ∷ left_after n op ops)

-- their lengths
abbrev pub LengthOfFirst : Type 0
LengthOfFirst = (n : ℕ) (op : Operation) → 0 < n → n ≤ op_len op → op_len (first_units n op) ≡ n

abbrev pub LengthOfLast : Type 0
LengthOfLast = (n : ℕ) (op : Operation) → n < op_len op → 0 < op_len (last_units n op)

abbrev pub BaseInParts : Type 0
BaseInParts = (n : ℕ) (op : Operation) (ops : List Operation) → n ≤ op_len op → op_base (first_units n op) + base_of (left_after n op ops) ≡ op_base op + base_of ops

-- how many operations are left
abbrev pub CountOfLeft : Type 0
CountOfLeft = (n : ℕ) (op : Operation) (ops : List Operation) → length (left_after n op ops) ≤ suc (length ops)

abbrev pub CountOfWhole : Type 0
CountOfWhole = (n : ℕ) (op : Operation) (ops : List Operation) → n ≡ op_len op → length (left_after n op ops) ≡ length ops

-- what is left of a list in normal form is in normal form
abbrev pub NormalOfLeft : Type 0
NormalOfLeft = (n : ℕ) (op : Operation) (ops : List Operation) → n ≤ op_len op → IsNormal (op ∷ ops) → IsNormal (left_after n op ops)

abbrev pub NormalOfRest : Type 0
NormalOfRest = (op : Operation) (ops : List Operation) → IsNormal (op ∷ ops) → IsNormal ops

-- and no operation in it is empty
abbrev pub NormalIsFilled : Type 0
NormalIsFilled = (ops : List Operation) → IsNormal ops → NoneIsEmpty ops

abbrev pub LeftIsFilled : Type 0
LeftIsFilled = (n : ℕ) (op : Operation) (ops : List Operation) → NoneIsEmpty (op ∷ ops) → NoneIsEmpty (left_after n op ops)

-- the two parts of being in normal form, and those of being merged and in order
abbrev pub NormalInParts : Type 0
NormalInParts = (op : Operation) (ops : List Operation) → IsNormal (op ∷ ops) → IsTrue (is_built (op ∷ ops)) × IsTrue (not (ends_plain (op ∷ ops)))

abbrev pub BuiltInParts : Type 0
BuiltInParts = (op : Operation) (ops : List Operation) → IsTrue (is_built (op ∷ ops)) → (0 < op_len op) × IsTrue (may_lead op ops) × IsTrue (is_built ops)

-- what a text and a retain may stand before
abbrev pub LeadOfText : Type 0
LeadOfText = (us : List ℕ) (a : Attributes) (ops : List Operation) → may_lead (insert_text us a) ops ≡ is_apart_text a ops

abbrev pub LeadOfRetain : Type 0
LeadOfRetain = (m : ℕ) (c : Changes) (ops : List Operation) → may_lead (retain m c) ops ≡ is_apart_retain c ops
