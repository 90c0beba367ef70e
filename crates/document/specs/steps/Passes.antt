-- The two passes of a delta over a document, operation by operation: whether a pair is parted, and what is made.
use Rattle.std.specs.Prelude.{◌≡◌, ℕ, ◌⊎◌, List, [], ◌∷◌, ◌++◌, length, drop, map}
use Rattle.attributes.specs.Attributes.{Attributes, Changes, changed}
use Rattle.attributes.specs.Map.{empty}
use Rattle.delta.specs.Element.{Element, letters}
use Rattle.delta.specs.Operation.{Operation, retain, op_base, base_of}
use Rattle.delta.specs.Gaps.{counted, apply}
use Rattle.document.specs.Pairs.{IsWithinPair, IsWellFormed}

-- some operation ends between the two units of a pair
abbrev pub StopsInPair : List Element → List Operation → Type 0
StopsInPair d [] = ⊥
StopsInPair d (op ∷ ops) = IsWithinPair d (op_base op) ⊎ StopsInPair (drop (op_base op) d) ops

-- units with a change of their attributes
abbrev pub with_change : Changes → List Element → List Element
with_change c d = map (λ (x : Element). record x { attributes = changed x.attributes c }) d

-- so many units, by themselves well formed, were stepped over
pub record IsSteppedOver (old new : List Element) (len : ℕ) : Type 0 where
  pub taken : List Element
  pub parts : old ≡ taken ++ new
  pub count : length taken ≡ len
  pub formed : IsWellFormed taken

-- so many units were stepped over, and put out with a change
pub record IsRetained (old new : List Element) (len : ℕ) (c : Changes) (out made : List Element) : Type 0 where
  pub passed : IsSteppedOver old new len
  pub made_of : made ≡ out ++ with_change c passed.taken

-- the units that an operation stands on were stepped over, and what it makes of them was put out
pub record IsOneApplied (old new : List Element) (op : Operation) (out made : List Element) : Type 0 where
  pub taken : List Element
  pub parts : old ≡ taken ++ new
  pub count : length taken ≡ op_base op
  pub made_of : made ≡ out ++ apply taken (counted (op ∷ []))

-- the last of operations, before which at most one retains units as they are
abbrev pub IsBehind : List Operation → Operation → Type 0
IsBehind ops op = (n : ℕ) × ((ops ≡ op ∷ []) ⊎ (ops ≡ retain n empty ∷ op ∷ []))

-- on a document of just the units that they retain, the operations put a text behind them, and do nothing else
abbrev pub PutsBehind : List Operation → List ℕ → Attributes → Type 0
PutsBehind ops us a = (d : List Element) → length d ≡ base_of ops → apply d (counted ops) ≡ d ++ letters us a
