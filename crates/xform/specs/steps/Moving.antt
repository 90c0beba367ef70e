-- What a delta becomes past another that it keeps all units of.
use Rattle.std.specs.Prelude.{◌≡◌, ℕ, ◌<◌, true, List, Option, Some, None, IfSome}
use Rattle.delta.specs.Operation.{Operation, base_of, out_of, IsBounded}
use Rattle.delta.specs.Gaps.{counted}
use Rattle.delta.specs.Lead.{lead_of, with_lead}
use Rattle.delta.specs.Normal.{IsNormal, nf}
use Rattle.xform.specs.After.{second_past}

-- with this length of the retain that is first the second is what it is after the first, within the bound
pub record IsMovedLead (first second : List Operation) (len : ℕ) : Type 0 where
  pub some : 0 < len
  pub bounded : IsBounded (with_lead len second)
  pub same : nf (counted (with_lead len second)) ≡ second_past first second true

-- a delta on its way: with another length of the retain that is first, where there is one that isn't written yet
abbrev pub led : Option ℕ → List Operation → List Operation
led None ops = ops
led (Some len) ops = with_lead len ops

-- it is a delta as it is by now, with these two lengths; the other length is that of a retain without attributes
pub record IsMoving (ops : List Operation) (lead : Option ℕ) (base out : ℕ) : Type 0 where
  pub normal : IsNormal (led lead ops)
  pub bounded : IsBounded (led lead ops)
  pub base_is : base ≡ base_of (led lead ops)
  pub out_is : out ≡ out_of (led lead ops)
  pub some : IfSome lead (λ len. 0 < len)
  pub leads : IfSome lead (λ len. lead_of (with_lead len ops) ≡ Some len)
