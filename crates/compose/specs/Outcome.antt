-- What composing and inverting come to: accepted, or refused for the first reason that holds. Memory may run out at any step.
use Rattle.std.specs.Prelude.{List, [], ◌∷◌, ◌⊎◌}
use Rattle.refusal.specs.declared.Refusal.{Refusal}
use Rattle.refusal.specs.declared.Refusal.TheVariants.{PastEnd, CutsPair, BadOps, NoMemory}
use Rattle.delta.specs.Element.{Element}
use Rattle.delta.specs.Operation.{Operation, IsBounded}
use Rattle.delta.specs.Gaps.{Gaps}
use Rattle.delta.specs.Places.{IsDefined}
use Rattle.document.specs.Places.{Cuts}
use Rattle.compose.specs.Composed.{one_for}
use Rattle.compose.specs.Cuts.{CutsText}

-- the second cuts no pair of the text that the first inserts, and the one delta for both stays within the bound of 2^48
abbrev pub CanCompose : List Operation → List Operation → Type 0
CanCompose first second = (¬ (CutsText first second)) × IsBounded (one_for first second)

-- no pair is cut, but the bound is passed
abbrev pub IsComposedTooLong : List Operation → List Operation → Type 0
IsComposedTooLong first second = (¬ (CutsText first second)) × (¬ (IsBounded (one_for first second)))

-- what each refusal says of two deltas
abbrev pub IsComposeRefused : List Operation → List Operation → Refusal → Type 0
IsComposeRefused first second CutsPair = CutsText first second
IsComposeRefused first second BadOps = IsComposedTooLong first second
IsComposeRefused first second NoMemory = Unit {0}
IsComposeRefused first second _ = ⊥

-- each of several can be composed with the one delta for all before it
abbrev pub CanComposeAll : List Operation → List (List Operation) → Type 0
CanComposeAll first [] = Unit {0}
CanComposeAll first (next ∷ others) = CanCompose first next × CanComposeAll (one_for first next) others

-- what each refusal says of several: it is that of the first which can't be composed with those before it
abbrev pub IsComposeAllRefused : List Operation → List (List Operation) → Refusal → Type 0
IsComposeAllRefused first [] refusal = ⊥
IsComposeAllRefused first (next ∷ others) refusal =
    IsComposeRefused first next refusal ⊎ (CanCompose first next × IsComposeAllRefused (one_for first next) others refusal)

-- a delta is defined on a document and cuts no pair of it
abbrev pub CanInvert : List Element → Gaps → Type 0
CanInvert d g = IsDefined d g × (¬ (Cuts d g))

-- what each refusal says of inverting a delta on a document
abbrev pub IsInvertRefused : List Element → Gaps → Refusal → Type 0
IsInvertRefused d g PastEnd = ¬ (IsDefined d g)
IsInvertRefused d g CutsPair = IsDefined d g × Cuts d g
IsInvertRefused d g NoMemory = IsDefined d g
IsInvertRefused d g _ = ⊥
