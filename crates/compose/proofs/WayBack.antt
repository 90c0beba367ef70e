-- How far the way back has been made.
use Rattle.std.proofs.Common.{◌≡◌, ℕ, ◌+◌, ◌≤◌, List, [], ◌∷◌, ◌++◌, length, inl, inr, sym, ap, subst, ◌∙◌, arith, length-append}
use Rattle.delta.specs.Element.{Element}
use Rattle.delta.specs.Operation.{Operation, op_base, op_out, base_of, out_of}
use Rattle.delta.specs.Gaps.{counted, joined}
use Rattle.delta.specs.Normal.{settled, trimmed, spelled, nf}
use Rattle.delta.proofs.CallerLemmas.{front-nil, joined-End}
use Rattle.document.specs.Pairs.{IsWithinPair}
use Rattle.document.specs.steps.Passes.{StopsInPair}
use Rattle.compose.specs.Inverse.{inverse}
use Rattle.compose.specs.steps.SteppingBack.{IsTakenBack}
use Rattle.document.proofs.CallerLemmas.{drop-taken, IsWithinPair-after}
pub use Rattle.attributes.proofs.CallerLemmas.{drop-here}

-- what was stepped over is no longer there
pub left_length : (old new taken : List Element) → old ≡ taken ++ new → length old ≡ length taken + length new
left_length old new taken parts = ap length parts ∙ length-append taken new

pub left_whole : (old new taken : List Element) (n m : ℕ) → old ≡ taken ++ new → n ≡ length taken + m → ¬ (IsWithinPair old n) → ¬ (IsWithinPair new m)
left_whole old new taken n m parts e whole within = whole (subst (λ d. IsWithinPair d n) (sym parts) (IsWithinPair-after taken new m n within e))

-- what was made, and then what takes back what is left, lead to the same as the whole way back
pub record IsPartlyUndone (document left : List Element) (ops rest made : List Operation) : Type 0 where
  pub effect : settled (joined (counted made) (inverse (counted rest) left)) ≡ settled (inverse (counted ops) document)
  pub there : base_of rest ≤ length left
  pub whole : ¬ (StopsInPair left rest)
  pub base : base_of made + out_of rest ≡ out_of ops
  pub out : out_of made + base_of rest ≡ base_of ops

start : (document : List Element) (ops : List Operation) → base_of ops ≤ length document → ¬ (StopsInPair document ops) → IsPartlyUndone document document ops ops []
start document ops there whole = record {
  effect = ap settled (front-nil (inverse (counted ops) document));
  there = there;
  whole = whole;
  base = omega arith;
  out = omega arith;
}

pub back-start : (document left : List Element) (ops rest made : List Operation) → left ≡ document → rest ≡ ops → made ≡ []
    → base_of ops ≤ length document → ¬ (StopsInPair document ops) → IsPartlyUndone document left ops rest made
back-start document left ops rest made left_is rest_is made_is there whole =
    subst (λ d. IsPartlyUndone document d ops rest made) (sym left_is)
    (subst (λ r. IsPartlyUndone document document ops r made) (sym rest_is)
    (subst (IsPartlyUndone document document ops ops) (sym made_is) (start document ops there whole)))

-- the next operation stands there, cuts no pair, and what takes it back stays within the bounds
module _ (document left : List Element) (ops rest others made : List Operation) (op : Operation) (so : IsPartlyUndone document left ops rest made) (here : rest ≡ op ∷ others) where
  pub next_there : op_base op ≤ length left
  next_there = omega (arith, so.there, ap base_of here)

  pub next_whole : ¬ (IsWithinPair left (op_base op))
  next_whole within = so.whole (subst (StopsInPair left) (sym here) (inl within))

  pub next_base : base_of made + op_out op ≤ out_of ops
  next_base = omega (arith, so.base, ap out_of here)

  pub next_out : out_of made + op_base op ≤ base_of ops
  next_out = omega (arith, so.out, ap base_of here)

  pub back-next : (new : List Element) (next : List Operation) → IsTakenBack left new op made next → IsPartlyUndone document new ops others next
  back-next new next taken = record {
    effect =
        sym (taken.effect others)
        ∙ (ap (λ l. settled (joined (counted made) (inverse (counted l) left))) (sym here) ∙ so.effect);
    there = omega (arith, so.there, ap base_of here, left_length left new taken.taken taken.parts, taken.count);
    whole = λ stops.
        so.whole (subst (StopsInPair left) (sym here) (inr (subst (λ d. StopsInPair d others) (sym (drop-taken left new taken.taken (op_base op) taken.parts taken.count)) stops)));
    base = omega (arith, so.base, ap out_of here, taken.base);
    out = omega (arith, so.out, ap base_of here, taken.out);
  }

-- where the delta has ended, all of it is taken back
pub back-end : (document left : List Element) (ops rest made : List Operation) → IsPartlyUndone document left ops rest made → rest ≡ []
    → nf (counted made) ≡ nf (inverse (counted ops) document)
back-end document left ops rest made so none =
    ap (λ s. spelled (trimmed s))
    (ap settled (sym (joined-End (counted made)))
    ∙ (ap (λ a. settled (joined (counted made) (inverse (counted a) left))) (sym none) ∙ so.effect))
