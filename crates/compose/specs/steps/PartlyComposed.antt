-- Two lists of operations that are composed in part.
use Rattle.std.specs.Prelude.{◌≡◌, ◌⊎◌, ◌+◌, ◌≤◌, ◌^◌, List, [], ◌++◌, Result, IfOk, OnOk, IfErr}
use Rattle.refusal.specs.declared.Refusal.{Refusal}
use Rattle.delta.specs.Operation.{Operation, base_of, out_of}
use Rattle.delta.specs.Gaps.{counted, joined}
use Rattle.delta.specs.Normal.{IsNormal, settled}
use Rattle.compose.specs.Composed.{composed, one_for}
use Rattle.compose.specs.Outcome.{CanCompose, IsComposeRefused}
use Rattle.compose.specs.steps.PairTest.{cuts}

-- what was made, and then what the lists that are left make, represent both lists. While the first lasts, no more units
-- of the document before are spoken of than it speaks of; while the second lasts, no more of the document after
pub record IsPartlyComposed (first second made before after : List Operation) : Type 0 where
  pub effect : settled (joined (counted made) (composed (counted before) (counted after))) ≡ settled (composed (counted first) (counted second))
  pub cut : cuts (counted first) (counted second) ≡ cuts (counted before) (counted after)
  pub before_normal : IsNormal before
  pub after_normal : IsNormal after
  pub base : (before ≡ []) ⊎ (base_of made + base_of before ≤ 2 ^ 48)
  pub out : (after ≡ []) ⊎ (out_of made + out_of after ≤ 2 ^ 48)

-- whatever two lists are composed so far, and whatever operations follow those before: they are composed so far then
abbrev pub ComposesFurther : List Operation → List Operation → List Operation → List Operation → List Operation → List Operation → Type 0
ComposesFurther made before after made_next before_left after_left =
    (first second more : List Operation) → IsPartlyComposed first second made (before ++ more) after → IsPartlyComposed first second made_next (before_left ++ more) after_left

-- whatever two lists are composed so far, and whatever operations follow those before: the two are refused
abbrev pub IsRefusedPartway : List Operation → List Operation → List Operation → Refusal → Type 0
IsRefusedPartway made before after refusal =
    (first second more : List Operation) → IsPartlyComposed first second made (before ++ more) after → IsComposeRefused first second refusal

-- what comes of both lists
pub record IsComposeOutcome (r : Result (List Operation) Refusal) (first second : List Operation) : Type 0 where
  pub one : IfOk r (λ one. one ≡ one_for first second)
  pub accepted : OnOk r (CanCompose first second)
  pub refused : IfErr r (IsComposeRefused first second)

-- the same, where the first list has ended
abbrev pub EndsWith : Result (List Operation) Refusal → List Operation → List Operation → Type 0
EndsWith r made after = (first second : List Operation) → IsPartlyComposed first second made [] after → IsComposeOutcome r first second
