-- What transforming comes to: accepted, or refused. Memory may run out at any step.
use Rattle.std.specs.Prelude.{Bool, true, List, [], ◌∷◌}
use Rattle.refusal.specs.declared.Refusal.{Refusal}
use Rattle.refusal.specs.declared.Refusal.TheVariants.{BadOps, NoMemory}
use Rattle.delta.specs.Operation.{Operation, IsBounded}
use Rattle.xform.specs.After.{second_past}

-- the second after the first stays within the bound of 2^48
abbrev pub CanTransform : List Operation → List Operation → Bool → Type 0
CanTransform first second priority = IsBounded (second_past first second priority)

-- what each refusal says of two deltas
abbrev pub IsTransformRefused : List Operation → List Operation → Bool → Refusal → Type 0
IsTransformRefused first second priority BadOps = ¬ (CanTransform first second priority)
IsTransformRefused first second priority NoMemory = Unit {0}
IsTransformRefused first second priority _ = ⊥

-- past several in turn it stays within the bound each time
abbrev pub CanPassAll : List (List Operation) → List Operation → Type 0
CanPassAll [] second = Unit {0}
CanPassAll (first ∷ others) second = CanTransform first second true × CanPassAll others (second_past first second true)

abbrev pub IsPassRefused : List (List Operation) → List Operation → Refusal → Type 0
IsPassRefused firsts second BadOps = ¬ (CanPassAll firsts second)
IsPassRefused firsts second NoMemory = Unit {0}
IsPassRefused firsts second _ = ⊥
