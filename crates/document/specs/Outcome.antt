-- What a delta on a document comes to: accepted, or refused for the first reason that holds.
use Rattle.std.specs.Prelude.{◌≤◌, ◌<◌, ◌^◌, List, length}
use Rattle.refusal.specs.declared.Refusal.{Refusal}
use Rattle.refusal.specs.declared.Refusal.TheVariants.{PastEnd, CutsPair, BadOps, NoMemory}
use Rattle.delta.specs.Element.{Element}
use Rattle.delta.specs.Gaps.{Gaps, apply}
use Rattle.delta.specs.Places.{IsDefined}
use Rattle.document.specs.Places.{Cuts}

-- defined, without a cut, and no more than 2^48 units after it
abbrev pub IsAccepted : List Element → Gaps → Type 0
IsAccepted d g = IsDefined d g × (¬ (Cuts d g)) × (length (apply d g) ≤ 2 ^ 48)

-- defined and without a cut, but more than 2^48 units after it
abbrev pub IsTooLong : List Element → Gaps → Type 0
IsTooLong d g = IsDefined d g × (¬ (Cuts d g)) × (2 ^ 48 < length (apply d g))

-- what each refusal says; only what is accepted otherwise is refused as out of memory
abbrev pub IsRefused : List Element → Gaps → Refusal → Type 0
IsRefused d g PastEnd = ¬ (IsDefined d g)
IsRefused d g CutsPair = IsDefined d g × Cuts d g
IsRefused d g BadOps = IsTooLong d g
IsRefused d g NoMemory = IsAccepted d g
IsRefused d g _ = ⊥
