-- What it is for one delta to do what two do in turn (quill-delta's README, "compose()").
use Rattle.std.specs.Prelude.{◌≡◌, List}
use Rattle.delta.specs.Element.{Element}
use Rattle.delta.specs.Operation.{Operation}
use Rattle.delta.specs.Gaps.{counted, apply}
use Rattle.delta.specs.Normal.{IsNormal}
use Rattle.delta.specs.Places.{IsDefined}

-- one delta composes two: it is in normal form, and on each document on which the first, and then the second, is defined,
-- it has the same result
pub record Composes (one first second : List Operation) : Type 0 where
  pub normal : IsNormal one
  pub effect : (d : List Element) → IsDefined d (counted first) → IsDefined (apply d (counted first)) (counted second)
      → apply d (counted one) ≡ apply (apply d (counted first)) (counted second)
