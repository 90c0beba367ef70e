-- The document that a delta makes of the empty one.
use Rattle.std.proofs.Common.{◌≡◌, ◌⊎◌, ◌<◌, ◌≤◌, inl, inr, List, [], refl, arith}
use Rattle.std.specs.Prelude.{◌↔◌}
use Rattle.refusal.specs.declared.Refusal.{Refusal}
use Rattle.refusal.specs.declared.Refusal.TheVariants.{PastEnd, CutsPair, BadOps, NoMemory}
use Rattle.delta.specs.Operation.{Operation, base_of, IsBounded}
use Rattle.delta.specs.Gaps.{counted}
use Rattle.delta.proofs.CallerLemmas.{units_below-counted, length-apply_counted}
use Rattle.delta.specs.Places.{IsDefined}
use Rattle.document.specs.Outcome.{IsRefused}

-- the empty document lacks a unit exactly where the delta retains or deletes one
pub undefined_empty : (delta : List Operation) → (¬ (IsDefined [] (counted delta))) ↔ (0 < base_of delta)
undefined_empty delta = (
  λ undefined. omega (arith, units_below-counted delta, undefined),
  λ some defined. absurd (omega (arith, units_below-counted delta, defined, some)),
)

-- no pair is cut, and no more comes of it than the delta makes
pub refused_empty : (delta : List Operation) → IsBounded delta → (refusal : Refusal) → IsRefused [] (counted delta) refusal → (refusal ≡ PastEnd) ⊎ (refusal ≡ NoMemory)
refused_empty delta bound PastEnd undefined = inl refl
refused_empty delta bound CutsPair cut = absurd cut.1.1
refused_empty delta bound BadOps long =
    let none : base_of delta ≤ 0 = omega (arith, long.0, units_below-counted delta) in
    absurd (omega (arith, bound.out, long.2, length-apply_counted [] delta none))
refused_empty delta bound NoMemory accepted = inr refl
refused_empty delta bound _ never = absurd never
