-- One step along the units of a document and a delta on it: what takes the delta back.
use Rattle.std.specs.Prelude.{◌≡◌, ℕ, ◌+◌, List, [], ◌∷◌, ◌++◌, length}
use Rattle.delta.specs.Element.{Element}
use Rattle.delta.specs.Operation.{Operation, retain, delete, op_base, op_out, base_of, out_of}
use Rattle.delta.specs.Gaps.{counted, joined}
use Rattle.delta.specs.Normal.{settled}
use Rattle.compose.specs.Inverse.{inverse}

-- what keeps or deletes, for so many units
abbrev pub for_units : ℕ → Operation → Operation
for_units n (retain m c) = retain n c
for_units n (delete m) = delete n
for_units n op = op

-- the operation that takes back what another does to these units, whatever operations follow and whatever units
pub record TakesBack (op : Operation) (units : List Element) (made : Operation) : Type 0 where
  pub effect : (rest : List Operation) (behind : List Element)
      → inverse (counted (op ∷ rest)) (units ++ behind) ≡ joined (counted (made ∷ [])) (inverse (counted rest) behind)
  pub base : op_base made ≡ op_out op
  pub out : op_out made ≡ op_base op

-- the units that an operation stands on were stepped over, and what takes it back was added to what was made. With the way back from
-- what follows, whatever that is, what was made before and what is made now lead to the same
pub record IsTakenBack (old new : List Element) (op : Operation) (before made : List Operation) : Type 0 where
  pub taken : List Element
  pub parts : old ≡ taken ++ new
  pub count : length taken ≡ op_base op
  pub effect : (rest : List Operation)
      → settled (joined (counted before) (inverse (counted (op ∷ rest)) old)) ≡ settled (joined (counted made) (inverse (counted rest) new))
  pub base : base_of made ≡ base_of before + op_out op
  pub out : out_of made ≡ out_of before + op_base op
