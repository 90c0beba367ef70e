-- Operations that begin with units kept, with more or fewer of these.
use Rattle.std.specs.Prelude.{◌≡◌, ℕ, Bool, true, false, List, [], ◌∷◌, Option, Some, None, if◌then◌else◌}
use Rattle.attributes.specs.Attributes.{Changes}
use Rattle.delta.specs.Operation.{Operation, retain, op_len, is_plain}

-- it keeps units
abbrev pub is_retain : Operation → Bool
is_retain (retain n c) = true
is_retain _ = false

-- the length of the retain without attributes that is first
abbrev pub lead_of : List Operation → Option ℕ
lead_of [] = None
lead_of (op ∷ ops) = if is_plain op then Some (op_len op) else None

-- the same as a number, 0 where they begin with something else
abbrev pub lead_units : List Operation → ℕ
lead_units [] = 0
lead_units (op ∷ ops) = if is_plain op then op_len op else 0

-- the operations with another length of the retain that is first; with none there they stay
abbrev pub with_lead : ℕ → List Operation → List Operation
with_lead n [] = []
with_lead n (retain m c ∷ ops) = retain n c ∷ ops
with_lead n (op ∷ ops) = op ∷ ops

-- one retain in place of another, with the same change
pub record IsLengthened (len : ℕ) (old new : Operation) (old_len : ℕ) : Type 0 where
  pub change : Changes
  pub was : old ≡ retain old_len change
  pub is : new ≡ retain len change

-- no retain, which stays
pub record IsLeft (old new : Operation) : Type 0 where
  pub other : is_retain old ≡ false
  pub same : new ≡ old

-- the operations begin with a retain of so many units
pub record RetainsFirst (ops : List Operation) (len : ℕ) : Type 0 where
  pub change : Changes
  pub rest : List Operation
  pub is : ops ≡ retain len change ∷ rest
