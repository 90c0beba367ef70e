-- One delta for several, one after another.
use Rattle.std.proofs.lemmas.Bool.{cases_lt}
use Rattle.std.proofs.Common.{◌≡◌, ℕ, suc, ◌+◌, ◌≤◌, ◌<◌, ◌^◌, inl, inr, ⊎_elim, List, [], ◌∷◌, ◌++◌, length, length-append, refl, sym, ap, subst, ◌∙◌, arith}
use Rattle.delta.specs.Element.{Element}
use Rattle.refusal.specs.declared.Refusal.{Refusal}
use Rattle.refusal.specs.declared.Refusal.TheVariants.{CutsPair, BadOps, NoMemory}
use Rattle.delta.specs.Operation.{Operation, base_of, out_of, IsBounded}
use Rattle.delta.specs.Gaps.{Gaps, End, Gap, Del, Keep, fated, counted, apply, units_below}
use Rattle.delta.specs.Normal.{IsNormal}
use Rattle.delta.specs.Places.{IsDefined}
use Rattle.document.specs.Places.{Cuts}
use Rattle.delta.proofs.CallerLemmas.{units_below-counted, units_below-front, base_of-nf}
use Rattle.compose.specs.Places.{tail}
use Rattle.compose.specs.Composed.{units_after, beyond, composed, one_for}
use Rattle.compose.specs.Many.{many_after, many, AreDefined, applied, ComposesAll, lengths_of}
use Rattle.compose.specs.Whole.{PartNone, IsWhole}
use Rattle.compose.specs.Outcome.{CanCompose, CanComposeAll, IsComposeRefused, IsComposeAllRefused}
use Rattle.compose.proofs.Compositions.{composes_by_normal}
use Rattle.compose.proofs.Lengths.{lengths-one}
use Rattle.compose.proofs.WholePairs.{whole-nothing, whole-one, whole-text}
pub use Rattle.attributes.proofs.CallerLemmas.{drop-here}

-- one gap form for two stands on no more units than are there
units-tail : (b : Gaps) (n : ℕ) → units_below b ≤ suc n → units_below (tail b) ≤ n
units-tail (End xs) n le = omega arith
units-tail (Gap xs f g) n le = omega (arith, le)

units-beyond : (xs : List Element) (b : Gaps) (n : ℕ) → units_below b ≤ length xs + n → units_below (beyond xs b) ≤ n
units-beyond [] b n le = omega (arith, le)
units-beyond (x ∷ xs) b n le = units-beyond xs (tail b) n (units-tail b (length xs + n) (omega (arith, le)))

units-composed : (d : List Element) (a b : Gaps) → units_below a ≤ length d → units_below b ≤ length (apply d a) → units_below (composed a b) ≤ length d
units-composed d (End xs) b long_a long_b =
    omega (arith, units_below-front (units_after xs b) (beyond xs b), units-beyond xs b (length d) (omega (arith, long_b, length-append xs d)))
units-composed [] (Gap xs f g) b long_a long_b = absurd (omega (arith, long_a))
units-composed (x ∷ d) (Gap xs Del g) b long_a long_b =
    let rest = units-composed d g (beyond xs b) (omega (arith, long_a)) (units-beyond xs b (length (apply d g)) (omega (arith, long_b, length-append xs (apply d g)))) in
    omega (arith, rest)
units-composed (x ∷ d) (Gap xs (Keep c) g) b long_a long_b =
    let over = units-beyond xs b (suc (length (apply d g))) (omega (arith, long_b, length-append xs (fated (Keep c) x ++ apply d g))) in
    let rest = units-composed d g (tail (beyond xs b)) (omega (arith, long_a)) (units-tail (beyond xs b) (length (apply d g)) over) in
    omega (arith, rest)

pub defined-one : (d : List Element) (a b : List Operation) → IsDefined d (counted a) → IsDefined (apply d (counted a)) (counted b) → IsDefined d (counted (one_for a b))
defined-one d a b long_a long_b =
    let rest = units-composed d (counted a) (counted b) long_a long_b in
    omega (arith, rest, base_of-nf (composed (counted a) (counted b)), units_below-counted (one_for a b))

-- so for all in turn
defined-many : (d : List Element) (first : List Operation) (others : List (List Operation)) → IsDefined d (counted first) → AreDefined (apply d (counted first)) others → IsDefined d (counted (many_after first others))
defined-many d first [] long rest = long
defined-many d first (next ∷ others) long rest =
    let one = composes_by_normal first next in
    defined-many d (one_for first next) others (defined-one d first next long rest.0)
    (subst (λ e. AreDefined e others) (sym (one.effect d long rest.0)) rest.1)

effect-many : (d : List Element) (first : List Operation) (others : List (List Operation)) → IsDefined d (counted first) → AreDefined (apply d (counted first)) others
    → apply d (counted (many_after first others)) ≡ applied (apply d (counted first)) others
effect-many d first [] long rest = refl
effect-many d first (next ∷ others) long rest =
    let one = composes_by_normal first next in
    effect-many d (one_for first next) others (defined-one d first next long rest.0)
    (subst (λ e. AreDefined e others) (sym (one.effect d long rest.0)) rest.1)
    ∙ ap (λ e. applied e others) (one.effect d long rest.0)

normal-many : (first : List Operation) (others : List (List Operation)) → IsNormal first → IsNormal (many_after first others)
normal-many first [] normal = normal
normal-many first (next ∷ others) normal = normal-many (one_for first next) others (composes_by_normal first next).normal

whole-many : (d : List Element) (first : List Operation) (others : List (List Operation)) → IsDefined d (counted first) → ¬ (Cuts d (counted first))
    → AreDefined (apply d (counted first)) others → PartNone (apply d (counted first)) others → ¬ (Cuts d (counted (many_after first others)))
whole-many d first [] long whole rest wholes = whole
whole-many d first (next ∷ others) long whole rest wholes =
    let one = composes_by_normal first next in
    whole-many d (one_for first next) others (defined-one d first next long rest.0) (whole-one d first next long whole wholes.0)
    (subst (λ e. AreDefined e others) (sym (one.effect d long rest.0)) rest.1)
    (subst (λ e. PartNone e others) (sym (one.effect d long rest.0)) wholes.1)

pub composes_all : (deltas : List (List Operation)) → ComposesAll (many deltas) deltas
composes_all deltas = record {
  normal = normal-many [] deltas refl;
  defined = λ d defined. defined-many d [] deltas (omega arith) defined;
  effect = λ d defined. effect-many d [] deltas (omega arith) defined;
}

pub whole_all : (deltas : List (List Operation)) → IsWhole (many deltas) deltas
whole_all deltas d defined wholes = whole-many d [] deltas (omega arith) (whole-nothing d) defined wholes

-- how far they have been composed: what holds of the one with those that are left holds of all
pub record AreComposed (deltas : List (List Operation)) (one : List Operation) (left : List (List Operation)) : Type 0 where
  pub same : many_after one left ≡ many deltas
  pub accepted : CanComposeAll one left → CanComposeAll [] deltas
  pub refused : (e : Refusal) → IsComposeAllRefused one left e → IsComposeAllRefused [] deltas e
  pub lengths : (base_of one + out_of one) + lengths_of left ≤ lengths_of deltas

pub composed-step : (deltas : List (List Operation)) (one next made : List Operation) (others : List (List Operation)) → AreComposed deltas one (next ∷ others)
    → made ≡ one_for one next → CanCompose one next → AreComposed deltas made others
composed-step deltas one next made others so made_is can =
    subst (λ m. AreComposed deltas m others) (sym made_is)
    (record {
      same = so.same;
      accepted = λ h. so.accepted (can, h);
      refused = λ e h. so.refused e (inr (can, h));
      lengths = omega (arith, so.lengths, lengths-one one next);
    })

-- the one that can't be composed with those before it
pub composed-refused : (deltas : List (List Operation)) (one next : List Operation) (others : List (List Operation)) (e : Refusal) → AreComposed deltas one (next ∷ others)
    → IsComposeRefused one next e → IsComposeAllRefused [] deltas e
composed-refused deltas one next others e so refused = so.refused e (inl refused)

-- the bound is passed only by lengths that sum above it
bounded-lengths : (a b : List Operation) → (base_of a + out_of a) + (base_of b + out_of b) ≤ 2 ^ 48 → IsBounded (one_for a b)
bounded-lengths a b le =
    let lengths = lengths-one a b in
    record { base = omega (arith, le, lengths.0); out = omega (arith, le, lengths.1) }

-- where all are defined in turn and part no pair, each can be composed with those before it
can-compose : (d : List Element) (first : List Operation) (others : List (List Operation)) → IsDefined d (counted first)
    → AreDefined (apply d (counted first)) others → PartNone (apply d (counted first)) others
    → (base_of first + out_of first) + lengths_of others ≤ 2 ^ 48 → CanComposeAll first others
can-compose d first [] long rest wholes short = tt
can-compose d first (next ∷ others) long rest wholes short =
    let one = composes_by_normal first next in
    let lengths = lengths-one first next in (
      (whole-text d first next long wholes.0, bounded-lengths first next (omega (arith, short))),
      can-compose d (one_for first next) others (defined-one d first next long rest.0)
          (subst (λ e. AreDefined e others) (sym (one.effect d long rest.0)) rest.1)
          (subst (λ e. PartNone e others) (sym (one.effect d long rest.0)) wholes.1)
          (omega (arith, short, lengths)),
    )

-- and then memory alone is wanted
memory-two : (one next : List Operation) (e : Refusal) → CanCompose one next → IsComposeRefused one next e → e ≡ NoMemory
memory-two one next CutsPair can refused = absurd (can.0 refused)
memory-two one next BadOps can refused = absurd (refused.1 can.1)
memory-two one next NoMemory can refused = refl
memory-two one next _ can refused = absurd refused

memory-all : (one : List Operation) (others : List (List Operation)) (e : Refusal) → CanComposeAll one others → IsComposeAllRefused one others e → e ≡ NoMemory
memory-all one [] e can refused = absurd refused
memory-all one (next ∷ others) e can (inl refused) = memory-two one next e can.0 refused
memory-all one (next ∷ others) e can (inr refused) = memory-all (one_for one next) others e can.1 refused.1

pub wants_memory : (deltas : List (List Operation)) (e : Refusal) → IsComposeAllRefused [] deltas e → (d : List Element) → AreDefined d deltas → PartNone d deltas
    → lengths_of deltas ≤ 2 ^ 48 → e ≡ NoMemory
wants_memory deltas e refused d defined wholes short =
    memory-all [] deltas e (can-compose d [] deltas (omega arith) defined wholes (omega (arith, short))) refused

pub long-two : (a b : List Operation) → ¬ (IsBounded (one_for a b)) → 2 ^ 48 < lengths_of (a ∷ b ∷ [])
long-two a b past =
    ⊎_elim
    (λ (long : 2 ^ 48 < lengths_of (a ∷ b ∷ [])). long)
    (λ (le : lengths_of (a ∷ b ∷ []) ≤ 2 ^ 48). absurd (past (bounded-lengths a b (omega (arith, le)))))
    (cases_lt (2 ^ 48) (lengths_of (a ∷ b ∷ [])))

pub long-many : (deltas : List (List Operation)) (one next : List Operation) (others : List (List Operation)) → AreComposed deltas one (next ∷ others)
    → IsComposeRefused one next BadOps → 2 ^ 48 < lengths_of deltas
long-many deltas one next others so refused = omega (arith, so.lengths, long-two one next refused.1)
