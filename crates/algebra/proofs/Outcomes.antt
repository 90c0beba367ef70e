-- A command comes to one thing.
use Rattle.std.proofs.Common.{◌≡◌, ◌⊎◌, ◌∙◌, Bool, List, inl, inr, sym, ap, refl, arith}
use Rattle.std.specs.Prelude.{Ok, Err, Result, IfOk, OnOk, IfErr}
use Rattle.refusal.specs.declared.Refusal.{Refusal}
use Rattle.refusal.specs.declared.Refusal.TheVariants.{BadOps, PastEnd, CutsPair, NoMemory}
use Rattle.delta.specs.Element.{Element}
use Rattle.delta.specs.Operation.{Operation, IsBounded}
use Rattle.delta.specs.Gaps.{End, counted, apply}
use Rattle.delta.specs.Normal.{nf}
use Rattle.compose.specs.Inverse.{inverse}
use Rattle.delta.specs.Places.{IsDefined}
use Rattle.document.specs.Places.{Cuts}
use Rattle.document.specs.Outcome.{IsAccepted, IsTooLong}
use Rattle.compose.specs.Composed.{one_for}
use Rattle.compose.specs.Cuts.{CutsText}
use Rattle.compose.specs.Outcome.{CanCompose, IsComposeRefused, CanInvert, IsInvertRefused}
use Rattle.xform.specs.After.{second_past}
use Rattle.xform.specs.Outcome.{CanTransform, IsTransformRefused}
use Rattle.optext.specs.Answer.{IsAnswerOf}
use Rattle.algebra.specs.Outcomes.{Outcome, Following, Composing, Transforming, InvertingOn, ApplyingOn, Inverting, Applying, first_document}

-- at most one outcome
abbrev pub IsOne : (Outcome → Type 0) → Type 0
IsOne Gives = (one other : Outcome) → Gives one → Gives other → one ≡ other

pub following-one : {X : Type 0} (found : Result X Refusal) (Gives : X → Outcome → Type 0) → ((x : X) → IsOne (Gives x)) → IsOne (Following found Gives)
following-one (Ok x) Gives each = each x
following-one (Err refusal) Gives each = λ one other p q. p ∙ sym q

-- composing

abbrev Composings : List Operation → List Operation → Outcome → Type 0
Composings a b outcome =
    ((outcome ≡ Ok (one_for a b)) × (¬ (CutsText a b)) × IsBounded (one_for a b))
    ⊎ (((outcome ≡ Err CutsPair) × CutsText a b) ⊎ ((outcome ≡ Err BadOps) × (¬ (CutsText a b)) × (¬ (IsBounded (one_for a b)))))

composings : (a b : List Operation) (outcome : Outcome) → Composing a b outcome → Composings a b outcome
composings a b (Ok one) h = inl (ap Ok h.1, h.0.0, h.0.1)
composings a b (Err CutsPair) h = inr (inl (refl, h))
composings a b (Err BadOps) h = inr (inr (refl, h.0, h.1))
composings a b (Err _) h = absurd h

composings-one : (a b : List Operation) (one other : Outcome) → Composings a b one → Composings a b other → one ≡ other
composings-one a b one other (inl p) (inl q) = p.0 ∙ sym q.0
composings-one a b one other (inl p) (inr (inl q)) = absurd (p.1 q.1)
composings-one a b one other (inl p) (inr (inr q)) = absurd (q.2 p.2)
composings-one a b one other (inr (inl p)) (inl q) = absurd (q.1 p.1)
composings-one a b one other (inr (inl p)) (inr (inl q)) = p.0 ∙ sym q.0
composings-one a b one other (inr (inl p)) (inr (inr q)) = absurd (q.1 p.1)
composings-one a b one other (inr (inr p)) (inl q) = absurd (p.2 q.2)
composings-one a b one other (inr (inr p)) (inr (inl q)) = absurd (p.1 q.1)
composings-one a b one other (inr (inr p)) (inr (inr q)) = p.0 ∙ sym q.0

pub composing-one : (a b : List Operation) → IsOne (Composing a b)
composing-one a b one other p q = composings-one a b one other (composings a b one p) (composings a b other q)

-- transforming

abbrev Transformings : List Operation → List Operation → Bool → Outcome → Type 0
Transformings a b priority outcome =
    ((outcome ≡ Ok (second_past a b priority)) × IsBounded (second_past a b priority))
    ⊎ ((outcome ≡ Err BadOps) × (¬ (IsBounded (second_past a b priority))))

transformings : (a b : List Operation) (priority : Bool) (outcome : Outcome) → Transforming a b priority outcome → Transformings a b priority outcome
transformings a b priority (Ok moved) h = inl (ap Ok h.1, h.0)
transformings a b priority (Err BadOps) h = inr (refl, h)
transformings a b priority (Err _) h = absurd h

transformings-one : (a b : List Operation) (priority : Bool) (one other : Outcome) → Transformings a b priority one → Transformings a b priority other → one ≡ other
transformings-one a b priority one other (inl p) (inl q) = p.0 ∙ sym q.0
transformings-one a b priority one other (inl p) (inr q) = absurd (q.1 p.1)
transformings-one a b priority one other (inr p) (inl q) = absurd (p.1 q.1)
transformings-one a b priority one other (inr p) (inr q) = p.0 ∙ sym q.0

pub transforming-one : (a b : List Operation) (priority : Bool) → IsOne (Transforming a b priority)
transforming-one a b priority one other p q =
    transformings-one a b priority one other (transformings a b priority one p) (transformings a b priority other q)

-- inverting

abbrev Invertings : List Operation → List Element → Outcome → Type 0
Invertings g d outcome =
    ((outcome ≡ Ok (nf (inverse (counted g) d))) × IsDefined d (counted g) × (¬ (Cuts d (counted g))))
    ⊎ (((outcome ≡ Err PastEnd) × (¬ (IsDefined d (counted g)))) ⊎ ((outcome ≡ Err CutsPair) × IsDefined d (counted g) × Cuts d (counted g)))

invertings : (g : List Operation) (d : List Element) (outcome : Outcome) → InvertingOn g d outcome → Invertings g d outcome
invertings g d (Ok back) h = inl (ap Ok h.1, h.0.0, h.0.1)
invertings g d (Err PastEnd) h = inr (inl (refl, h))
invertings g d (Err CutsPair) h = inr (inr (refl, h.0, h.1))
invertings g d (Err _) h = absurd h

invertings-one : (g : List Operation) (d : List Element) (one other : Outcome) → Invertings g d one → Invertings g d other → one ≡ other
invertings-one g d one other (inl p) (inl q) = p.0 ∙ sym q.0
invertings-one g d one other (inl p) (inr (inl q)) = absurd (q.1 p.1)
invertings-one g d one other (inl p) (inr (inr q)) = absurd (p.2 q.2)
invertings-one g d one other (inr (inl p)) (inl q) = absurd (p.1 q.1)
invertings-one g d one other (inr (inl p)) (inr (inl q)) = p.0 ∙ sym q.0
invertings-one g d one other (inr (inl p)) (inr (inr q)) = absurd (p.1 q.1)
invertings-one g d one other (inr (inr p)) (inl q) = absurd (q.2 p.2)
invertings-one g d one other (inr (inr p)) (inr (inl q)) = absurd (q.1 p.1)
invertings-one g d one other (inr (inr p)) (inr (inr q)) = p.0 ∙ sym q.0

pub inverting-one : (g base : List Operation) → IsOne (Inverting g base)
inverting-one g base = following-one (first_document base) (InvertingOn g)
    (λ d one other p q. invertings-one g d one other (invertings g d one p) (invertings g d other q))

-- applying

abbrev Applyings : List Operation → List Element → Outcome → Type 0
Applyings g d outcome =
    ((outcome ≡ Ok (nf (End (apply d (counted g))))) × IsAccepted d (counted g))
    ⊎ (((outcome ≡ Err PastEnd) × (¬ (IsDefined d (counted g))))
    ⊎ (((outcome ≡ Err CutsPair) × IsDefined d (counted g) × Cuts d (counted g)) ⊎ ((outcome ≡ Err BadOps) × IsTooLong d (counted g))))

applyings : (g : List Operation) (d : List Element) (outcome : Outcome) → ApplyingOn g d outcome → Applyings g d outcome
applyings g d (Ok made) h = inl (ap Ok h.1, h.0)
applyings g d (Err PastEnd) h = inr (inl (refl, h))
applyings g d (Err CutsPair) h = inr (inr (inl (refl, h.0, h.1)))
applyings g d (Err BadOps) h = inr (inr (inr (refl, h)))
applyings g d (Err _) h = absurd h

accepted-long : (g : List Operation) (d : List Element) → IsAccepted d (counted g) → IsTooLong d (counted g) → ⊥
accepted-long g d p q = absurd (omega (arith, p.2, q.2))

applyings-one : (g : List Operation) (d : List Element) (one other : Outcome) → Applyings g d one → Applyings g d other → one ≡ other
applyings-one g d one other (inl p) (inl q) = p.0 ∙ sym q.0
applyings-one g d one other (inl p) (inr (inl q)) = absurd (q.1 p.1.0)
applyings-one g d one other (inl p) (inr (inr (inl q))) = absurd (p.1.1 q.2)
applyings-one g d one other (inl p) (inr (inr (inr q))) = absurd (accepted-long g d p.1 q.1)
applyings-one g d one other (inr (inl p)) (inl q) = absurd (p.1 q.1.0)
applyings-one g d one other (inr (inl p)) (inr (inl q)) = p.0 ∙ sym q.0
applyings-one g d one other (inr (inl p)) (inr (inr (inl q))) = absurd (p.1 q.1)
applyings-one g d one other (inr (inl p)) (inr (inr (inr q))) = absurd (p.1 q.1.0)
applyings-one g d one other (inr (inr (inl p))) (inl q) = absurd (q.1.1 p.2)
applyings-one g d one other (inr (inr (inl p))) (inr (inl q)) = absurd (q.1 p.1)
applyings-one g d one other (inr (inr (inl p))) (inr (inr (inl q))) = p.0 ∙ sym q.0
applyings-one g d one other (inr (inr (inl p))) (inr (inr (inr q))) = absurd (q.1.1 p.2)
applyings-one g d one other (inr (inr (inr p))) (inl q) = absurd (accepted-long g d q.1 p.1)
applyings-one g d one other (inr (inr (inr p))) (inr (inl q)) = absurd (q.1 p.1.0)
applyings-one g d one other (inr (inr (inr p))) (inr (inr (inl q))) = absurd (p.1.1 q.2)
applyings-one g d one other (inr (inr (inr p))) (inr (inr (inr q))) = p.0 ∙ sym q.0

pub applying-one : (base g : List Operation) → IsOne (Applying base g)
applying-one base g = following-one (first_document base) (ApplyingOn g)
    (λ d one other p q. applyings-one g d one other (applyings g d one p) (applyings g d other q))

-- what each call says of its result makes it an answer
pub composing-from : (a b : List Operation) (r : Outcome) → IfOk r (λ one. one ≡ one_for a b) → OnOk r (CanCompose a b) → IfErr r (IsComposeRefused a b) → IsAnswerOf (Composing a b) r
composing-from a b (Ok one) is can refused = inl (can, is)
composing-from a b (Err CutsPair) is can refused = inl refused
composing-from a b (Err BadOps) is can refused = inl refused
composing-from a b (Err NoMemory) is can refused = inr refl
composing-from a b (Err _) is can refused = absurd refused

pub transforming-from : (a b : List Operation) (priority : Bool) (r : Outcome) → IfOk r (λ moved. moved ≡ second_past a b priority) → OnOk r (CanTransform a b priority)
    → IfErr r (IsTransformRefused a b priority) → IsAnswerOf (Transforming a b priority) r
transforming-from a b priority (Ok moved) is can refused = inl (can, is)
transforming-from a b priority (Err BadOps) is can refused = inl refused
transforming-from a b priority (Err NoMemory) is can refused = inr refl
transforming-from a b priority (Err _) is can refused = absurd refused

pub inverting-from : (g : List Operation) (d : List Element) (r : Outcome) → IfOk r (λ back. back ≡ nf (inverse (counted g) d)) → OnOk r (CanInvert d (counted g))
    → IfErr r (IsInvertRefused d (counted g)) → IsAnswerOf (InvertingOn g d) r
inverting-from g d (Ok back) is can refused = inl (can, is)
inverting-from g d (Err PastEnd) is can refused = inl refused
inverting-from g d (Err CutsPair) is can refused = inl refused
inverting-from g d (Err NoMemory) is can refused = inr refl
inverting-from g d (Err _) is can refused = absurd refused
