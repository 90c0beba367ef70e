-- How far two lists of operations have been composed, and what is refused on the way.
use Rattle.std.proofs.Common.{◌≡◌, ◌+◌, ◌≤◌, ◌<◌, ◌^◌, ◌⊎◌, inl, inr, false, List, [], ◌∷◌, ◌++◌, length, refl, sym, ap, subst, ◌∙◌, ⊎_elim, arith}
use Rattle.std.proofs.lemmas.List.{append-nil, length-append}
use Rattle.delta.specs.Operation.{Operation, base_of, out_of, IsBounded}
use Rattle.delta.specs.Gaps.{Gaps, End, counted, joined}
use Rattle.delta.specs.Normal.{IsNormal, settled, trimmed, spelled, nf, built}
use Rattle.delta.proofs.CallerLemmas.{front-nil, joined-End, joined-joined, counted-append, units_below-counted, settled-joined, settled-joined_settled, settled-settled, counted-spelled, units_made-counted, base_of-append, out_of-append}
use Rattle.compose.specs.Composed.{composed, one_for}
use Rattle.compose.specs.Cuts.{CutsText}
use Rattle.compose.specs.Outcome.{IsComposedTooLong}
use Rattle.compose.specs.steps.PairTest.{cuts}
use Rattle.compose.specs.steps.Stepping.{IsStep}
use Rattle.compose.specs.steps.PartlyComposed.{IsPartlyComposed}
use Rattle.compose.proofs.Alongside.{composed-nothing}
use Rattle.compose.proofs.Pairs.{cuts-nothing}
use Rattle.compose.proofs.DocumentCuts.{text-cut}
use Rattle.compose.proofs.Lengths.{below-joined, made-joined, below-same, made-same}
use Rattle.compose.proofs.Trimmings.{bounded-all}

at_start : (first second : List Operation) → IsNormal first → IsNormal second → IsBounded first → IsBounded second → IsPartlyComposed first second [] first second
at_start first second normal_first normal_second bounded_first bounded_second = record {
  effect = ap settled (front-nil (composed (counted first) (counted second)));
  cut = refl;
  before_normal = normal_first;
  after_normal = normal_second;
  base = inr (omega (arith, bounded_first.base));
  out = inr (omega (arith, bounded_second.out));
}

pub parts-start : (first second made before after : List Operation) → made ≡ [] → before ≡ first → after ≡ second
    → IsNormal first → IsNormal second → IsBounded first → IsBounded second → IsPartlyComposed first second made before after
parts-start first second made before after made_is before_is after_is normal_first normal_second bounded_first bounded_second =
    subst (λ m. IsPartlyComposed first second m before after) (sym made_is)
    (subst (λ b. IsPartlyComposed first second [] b after) (sym before_is)
    (subst (λ a. IsPartlyComposed first second [] first a) (sym after_is)
    (at_start first second normal_first normal_second bounded_first bounded_second)))

-- what is added counts as it is
pub settled-built : (ops : List Operation) → settled (counted (built ops)) ≡ settled (counted ops)
settled-built ops = ap settled (counted-spelled (settled (counted ops))) ∙ settled-settled (counted ops)

-- what a step makes represents what it takes
made-step : (total h whole made rest : Gaps) → settled (joined h whole) ≡ settled total → settled whole ≡ settled (joined made rest)
    → settled (joined (joined h made) rest) ≡ settled total
made-step total h whole made rest effect step =
    ap settled (joined-joined h made rest)
    ∙ (sym (settled-joined_settled h (joined made rest)) ∙ (ap (λ s. settled (joined h s)) (sym step) ∙ (settled-joined_settled h whole ∙ effect)))

pub effect-step : (total whole rest : Gaps) (now made next : List Operation) → settled (joined (counted now) whole) ≡ settled total
    → settled whole ≡ settled (joined (counted made) rest) → settled (counted next) ≡ settled (counted (now ++ made)) → settled (joined (counted next) rest) ≡ settled total
effect-step total whole rest now made next effect step added =
    sym (settled-joined (counted next) rest)
    ∙ (ap (λ s. settled (joined s rest)) (added ∙ ap settled (counted-append now made))
    ∙ (settled-joined (joined (counted now) (counted made)) rest ∙ made-step total (counted now) whole (counted made) rest effect step))

-- what a step takes from the two lists, and leaves of them
pub record Takes (before after made left rest : List Operation) : Type 0 where
  pub step : IsStep before after made left rest
  pub normal : IsNormal rest
  pub first_ended : before ≡ [] → left ≡ []
  pub second_ended : after ≡ [] → rest ≡ []
  pub base : (before ≡ []) ⊎ (base_of made + base_of left ≤ base_of before)
  pub out : (after ≡ []) ⊎ (out_of made + out_of rest ≤ out_of after)
  pub shorter : length left + length rest < length before + length after

pub parts-step : (first second now made next before after left rest : List Operation) → IsPartlyComposed first second now before after
    → Takes before after made left rest → settled (counted next) ≡ settled (counted (now ++ made)) → IsPartlyComposed first second next left rest
parts-step first second now made next before after left rest so takes added =
    let base_added = below-same (counted next) (counted (now ++ made)) added in
    let out_added = made-same (counted next) (counted (now ++ made)) added in
    let base_is : base_of next ≡ base_of now + base_of made = omega (arith, base_added, units_below-counted next, units_below-counted (now ++ made), base_of-append now made) in
    let out_is : out_of next ≡ out_of now + out_of made = omega (arith, out_added, units_made-counted next, units_made-counted (now ++ made), out_of-append now made) in
    record {
      effect = effect-step (composed (counted first) (counted second)) (composed (counted before) (counted after)) (composed (counted left) (counted rest)) now made next so.effect takes.step.effect added;
      cut = so.cut ∙ takes.step.cut;
      before_normal = takes.step.normal;
      after_normal = takes.normal;
      base = ⊎_elim
          (λ (none : before ≡ []). inl (takes.first_ended none))
          (λ (room : base_of now + base_of before ≤ 2 ^ 48).
          ⊎_elim
          (λ (none : before ≡ []). inl (takes.first_ended none))
          (λ (less : base_of made + base_of left ≤ base_of before). inr (omega (arith, room, less, base_is)))
          takes.base)
          so.base;
      out = ⊎_elim
          (λ (none : after ≡ []). inl (takes.second_ended none))
          (λ (room : out_of now + out_of after ≤ 2 ^ 48).
          ⊎_elim
          (λ (none : after ≡ []). inl (takes.second_ended none))
          (λ (less : out_of made + out_of rest ≤ out_of after). inr (omega (arith, room, less, out_is)))
          takes.out)
          so.out;
    }

-- no pair is cut where one list has ended
ended-whole : (before after : List Operation) → (before ≡ []) ⊎ (after ≡ []) → cuts (counted before) (counted after) ≡ false
ended-whole before after (inl none) = ap (λ b. cuts (counted b) (counted after)) none
ended-whole before after (inr none) = ap (λ a. cuts (counted before) (counted a)) none ∙ cuts-nothing (counted before)

pub parts-whole : (first second made before after : List Operation) → IsPartlyComposed first second made before after → (before ≡ []) ⊎ (after ≡ []) → ¬ (CutsText first second)
parts-whole first second made before after so ended cut =
    let told = text-cut first second cut in
    let same = so.cut in
    let none = ended-whole before after ended in
    absurd (cc)

-- there what is left of the other is what is left to be made
left-made : (before after : List Operation) → (before ≡ []) ⊎ (after ≡ []) → composed (counted before) (counted after) ≡ counted (before ++ after)
left-made before after (inl none) =
    ap (λ b. composed (counted b) (counted after)) none ∙ (front-nil (counted after) ∙ ap (λ b. counted (b ++ after)) (sym none))
left-made before after (inr none) =
    ap (λ a. composed (counted before) (counted a)) none
    ∙ (composed-nothing (counted before)
    ∙ (sym (joined-End (counted before)) ∙ (sym (counted-append before []) ∙ ap (λ a. counted (before ++ a)) (sym none))))

left-normal : (before after : List Operation) → IsNormal before → IsNormal after → (before ≡ []) ⊎ (after ≡ []) → IsNormal (before ++ after)
left-normal [] after normal_before normal_after ended = normal_after
left-normal (op ∷ ops) [] normal_before normal_after ended = subst IsNormal (sym (append-nil (op ∷ ops))) normal_before
left-normal (op ∷ ops) (next ∷ rest) normal_before normal_after (inl none) = absurd (cc)
left-normal (op ∷ ops) (next ∷ rest) normal_before normal_after (inr none) = absurd (cc)

bounded-left : (made left : List Operation) → IsNormal left → 0 < length left → IsBounded (nf (counted (made ++ left)))
    → (base_of made + base_of left ≤ 2 ^ 48) × (out_of made + out_of left ≤ 2 ^ 48)
bounded-left made [] normal some bounded = absurd (omega (arith, some))
bounded-left made (op ∷ ops) normal some bounded = bounded-all made op ops normal bounded

-- so what a step makes then passes the bound only where the whole does
unbounded : (first second now made before after left rest : List Operation) → IsPartlyComposed first second now before after → Takes before after made left rest
    → ¬ (IsBounded (now ++ made)) → (before ≡ []) ⊎ (after ≡ []) → ¬ (IsBounded (one_for first second))
unbounded first second now made before after left rest so takes past ended bounded =
    let all : List Operation = before ++ after in
    let whole : composed (counted before) (counted after) ≡ counted all = left-made before after ended in
    let same : settled (composed (counted first) (counted second)) ≡ settled (counted (now ++ all)) =
    sym so.effect ∙ ap settled (ap (joined (counted now)) whole ∙ sym (counted-append now all)) in
    let within = bounded-left now all (left-normal before after so.before_normal so.after_normal ended) (omega (arith, takes.shorter, length-append before after))
    (subst (λ (s : Gaps). IsBounded (spelled (trimmed s))) same bounded) in
    let step : settled (counted all) ≡ settled (joined (counted made) (composed (counted left) (counted rest))) = ap settled (sym whole) ∙ takes.step.effect in
    let base = below-same (counted all) (joined (counted made) (composed (counted left) (counted rest))) step in
    let out = made-same (counted all) (joined (counted made) (composed (counted left) (counted rest))) step in
    past
    (record {
      base = omega (arith, within.0, base, below-joined (counted made) (composed (counted left) (counted rest)), units_below-counted made, units_below-counted all, base_of-append now made);
      out = omega (arith, within.1, out, made-joined (counted made) (composed (counted left) (counted rest)), units_made-counted made, units_made-counted all, out_of-append now made);
    })

-- while both go on, it doesn't
ended : (first second now made before after left rest : List Operation) → IsPartlyComposed first second now before after → Takes before after made left rest
    → ¬ (IsBounded (now ++ made)) → (before ≡ []) ⊎ (after ≡ [])
ended first second now made before after left rest so takes past =
    ⊎_elim inl
    (λ (base : base_of now + base_of before ≤ 2 ^ 48).
    ⊎_elim inr
    (λ (out : out_of now + out_of after ≤ 2 ^ 48).
    ⊎_elim inl
    (λ (less_base : base_of made + base_of left ≤ base_of before).
    ⊎_elim inr
    (λ (less_out : out_of made + out_of rest ≤ out_of after).
    absurd
    (past
    (record {
      base = omega (arith, base, less_base, base_of-append now made);
      out = omega (arith, out, less_out, out_of-append now made);
    })))
    takes.out)
    takes.base)
    so.out)
    so.base

pub parts-past : (first second now made before after left rest : List Operation) → IsPartlyComposed first second now before after → Takes before after made left rest
    → ¬ (IsBounded (now ++ made)) → IsComposedTooLong first second
parts-past first second now made before after left rest so takes past =
    let over = ended first second now made before after left rest so takes past in (
      parts-whole first second now before after so over,
      unbounded first second now made before after left rest so takes past over,
    )

-- where both have ended, all is made
pub parts-end : (first second made before after : List Operation) → IsPartlyComposed first second made before after → before ≡ [] → after ≡ [] → nf (counted made) ≡ one_for first second
parts-end first second made before after so before_is after_is =
    ap (λ s. spelled (trimmed s))
    (ap settled (sym (joined-End (counted made)))
    ∙ (ap (λ b. settled (joined (counted made) (composed (counted b) (End [])))) (sym before_is)
    ∙ (ap (λ a. settled (joined (counted made) (composed (counted before) (counted a)))) (sym after_is) ∙ so.effect)))
