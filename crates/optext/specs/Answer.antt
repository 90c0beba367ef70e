-- What is answered where memory may run out.
use Rattle.std.specs.Prelude.{◌≡◌, ◌⊎◌, Option, Some, None, Result, Ok, Err}
use Rattle.refusal.specs.declared.Refusal.{Refusal}
use Rattle.refusal.specs.declared.Refusal.TheVariants.{BadOps, NoMemory}

-- the answer is an outcome that comes of something, or memory ran out
abbrev pub IsAnswerOf : {X : Type 0} → (Result X Refusal → Type 0) → Result X Refusal → Type 0
IsAnswerOf Gives answer = Gives answer ⊎ (answer ≡ Err NoMemory)

-- the answer is this outcome, or memory ran out
abbrev pub IsAnswer : {X : Type 0} → Result X Refusal → Result X Refusal → Type 0
IsAnswer outcome = IsAnswerOf (λ answer. answer ≡ outcome)

-- a value that describes something gives it, one that describes nothing is refused as BadOps, or memory ran out
abbrev pub IsRead : {X : Type 0} → Option X → Result X Refusal → Type 0
IsRead described (Ok x) = described ≡ Some x
IsRead described (Err e) = (e ≡ NoMemory) ⊎ ((e ≡ BadOps) × (described ≡ None))
