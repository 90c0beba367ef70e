-- What a builder and a delta keep, and one operation more for a builder.
use Rattle.std.specs.Prelude.{◌≡◌, ℕ, suc, List, [], ◌∷◌, ◌++◌, take, drop, insert, ◌&&◌, IsTrue, Option, Some, None, if◌then◌else◌}
use Rattle.attributes.specs.Map.{empty}
use Rattle.delta.specs.Operation.{Operation, retain, is_insert, is_delete, is_plain, merged, base_of, out_of, IsBounded}
use Rattle.delta.specs.Normal.{is_built, IsNormal}

-- two neighbours before others: one operation where they merge
abbrev pub neighbours : Option Operation → Operation → Operation → List Operation → List Operation
neighbours (Some m) a b r = m ∷ r
neighbours None a b r = a ∷ b ∷ r

-- one operation more at the end, in the last one where they merge
abbrev pub added : List Operation → Operation → List Operation
added [] op = op ∷ []
added (a ∷ []) op = neighbours (merged a op) a op []
added (a ∷ b ∷ r) op = a ∷ added (b ∷ r) op

-- where one operation more is added: at the end, and an insert before a delete that is last
abbrev pub place_of : List Operation → Operation → ℕ
place_of [] op = 0
place_of (a ∷ []) op = if is_delete a && is_insert op then 0 else 1
place_of (a ∷ b ∷ r) op = suc (place_of (b ∷ r) op)

-- one operation more at a place, in the one before it where they merge
abbrev pub added_at : List Operation → ℕ → Operation → List Operation
added_at ops place op = added (take place ops) op ++ drop place ops

-- nothing has changed yet, and one operation more is inserted at this place as it is
pub record IsAddedApart (old new : List Operation) (place : ℕ) (op : Operation) : Type 0 where
  pub same : new ≡ old
  pub there : insert old place op ≡ added_at old place op

-- the operations without a last retain that has no attributes
abbrev pub without_plain : List Operation → List Operation
without_plain [] = []
without_plain (op ∷ []) = if is_plain op then [] else op ∷ []
without_plain (op ∷ next ∷ ops) = op ∷ without_plain (next ∷ ops)

-- operations, and units kept without a change behind them
abbrev pub with_plain : List Operation → ℕ → List Operation
with_plain ops n = ops ++ retain n empty ∷ []

-- what a builder keeps: operations merged and in order, within the bound, with their two lengths
pub record IsBuilding (ops : List Operation) (base out : ℕ) : Type 0 where
  pub built : IsTrue (is_built ops)
  pub bounded : IsBounded ops
  pub base_is : base ≡ base_of ops
  pub out_is : out ≡ out_of ops

-- what a delta is made of: operations in normal form, within the bound, with their two lengths
pub record IsDelta (ops : List Operation) (base out : ℕ) : Type 0 where
  pub normal : IsNormal ops
  pub bounded : IsBounded ops
  pub base_is : base ≡ base_of ops
  pub out_is : out ≡ out_of ops
