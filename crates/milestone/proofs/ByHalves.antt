-- The one delta for deltas in turn, made of the one for those up to a place and the one for those from there on.
use Rattle.std.proofs.Common.{◌≡◌, ℕ, zero, suc, ◌+◌, ◌≤◌, List, [], ◌∷◌, take, drop, refl, sym, ap, subst, ◌∙◌, arith}
use Rattle.refusal.specs.declared.Refusal.{Refusal}
use Rattle.refusal.specs.declared.Refusal.TheVariants.{CutsPair, BadOps, NoMemory}
use Rattle.delta.specs.Element.{Element}
use Rattle.delta.specs.Operation.{Operation, base_of, out_of}
use Rattle.delta.specs.Gaps.{counted, apply}
use Rattle.delta.specs.Places.{IsDefined}
use Rattle.document.specs.Places.{Cuts}
use Rattle.compose.specs.Composed.{one_for}
use Rattle.compose.specs.Many.{many_after, many, AreDefined, applied, lengths_of}
use Rattle.compose.specs.Whole.{PartNone}
use Rattle.compose.specs.Outcome.{IsComposeRefused}
use Rattle.compose.proofs.Compositions.{composes_by_normal}
use Rattle.compose.proofs.Lengths.{lengths-one}
use Rattle.compose.proofs.WholePairs.{whole-one, whole-text}
use Rattle.compose.proofs.ManyDeltas.{defined-one, long-two}
use Rattle.milestone.specs.Halves.{IsPart, ComposesPart}
use Rattle.milestone.proofs.InTurn.{are_defined, part_none, applied-parts}

-- those up to a place are defined in turn where all are, and those from there on on what they leave
defined-take : (n : ℕ) (d : List Element) (deltas : List (List Operation)) → AreDefined d deltas → AreDefined d (take n deltas)
defined-take zero d deltas defined = tt
defined-take (suc n) d [] defined = tt
defined-take (suc n) d (first ∷ others) defined = (defined.0, defined-take n (apply d (counted first)) others defined.1)

defined-drop : (n : ℕ) (d : List Element) (deltas : List (List Operation)) → AreDefined d deltas → AreDefined (applied d (take n deltas)) (drop n deltas)
defined-drop zero d deltas defined = defined
defined-drop (suc n) d [] defined = tt
defined-drop (suc n) d (first ∷ others) defined = defined-drop n (apply d (counted first)) others defined.1

-- and they part no pair where all part none
none-take : (n : ℕ) (d : List Element) (deltas : List (List Operation)) → PartNone d deltas → PartNone d (take n deltas)
none-take zero d deltas none = tt
none-take (suc n) d [] none = tt
none-take (suc n) d (first ∷ others) none = (none.0, none-take n (apply d (counted first)) others none.1)

none-drop : (n : ℕ) (d : List Element) (deltas : List (List Operation)) → PartNone d deltas → PartNone (applied d (take n deltas)) (drop n deltas)
none-drop zero d deltas none = none
none-drop (suc n) d [] none = tt
none-drop (suc n) d (first ∷ others) none = none-drop n (apply d (counted first)) others none.1

-- their lengths sum to those of all
lengths-split : (n : ℕ) (deltas : List (List Operation)) → lengths_of (take n deltas) + lengths_of (drop n deltas) ≡ lengths_of deltas
lengths-split zero deltas = omega arith
lengths-split (suc n) [] = refl
lengths-split (suc n) (first ∷ others) = omega (arith, lengths-split n others)

-- composed from the left the one has no longer lengths than all together
many-lengths : (first : List Operation) (others : List (List Operation))
    → base_of (many_after first others) + out_of (many_after first others) ≤ (base_of first + out_of first) + lengths_of others
many-lengths first [] = omega arith
many-lengths first (next ∷ others) = omega (arith, many-lengths (one_for first next) others, lengths-one first next)

pub lengths-many : (deltas : List (List Operation)) (one : List Operation) → one ≡ many deltas → base_of one + out_of one ≤ lengths_of deltas
lengths-many deltas one same =
    subst (λ o. base_of o + out_of o ≤ lengths_of deltas) (sym same) (omega (arith, many-lengths [] deltas))

-- nor has the one for two that have no longer ones than their halves
pub both-lengths : (n : ℕ) (deltas : List (List Operation)) (first second one : List Operation) → base_of first + out_of first ≤ lengths_of (take n deltas)
    → base_of second + out_of second ≤ lengths_of (drop n deltas) → one ≡ one_for first second → base_of one + out_of one ≤ lengths_of deltas
both-lengths n deltas first second one first-short second-short same =
    subst (λ (o : List Operation). base_of o + out_of o ≤ lengths_of deltas) (sym same)
    (omega (arith, lengths-one first second, first-short, second-short, lengths-split n deltas))

module _ (n : ℕ) (deltas : List (List Operation)) (first second : List Operation) (begins : ComposesPart first (take n deltas)) (ends : ComposesPart second (drop n deltas)) where
  -- the first makes what those up to the place make, and there the second is defined and parts no pair
  first-defined : (d : List Element) → AreDefined d deltas → IsDefined d (counted first)
  first-defined d defined = begins.all.defined d (defined-take n d deltas defined)

  first-makes : (d : List Element) → AreDefined d deltas → apply d (counted first) ≡ applied d (take n deltas)
  first-makes d defined = begins.all.effect d (defined-take n d deltas defined)

  second-defined : (d : List Element) → AreDefined d deltas → IsDefined (apply d (counted first)) (counted second)
  second-defined d defined =
      subst (λ (e : List Element). IsDefined e (counted second)) (sym (first-makes d defined))
      (ends.all.defined (applied d (take n deltas)) (defined-drop n d deltas defined))

  second-whole : (d : List Element) → AreDefined d deltas → PartNone d deltas → ¬ (Cuts (apply d (counted first)) (counted second))
  second-whole d defined none =
      subst (λ (e : List Element). ¬ (Cuts e (counted second))) (sym (first-makes d defined))
      (ends.whole (applied d (take n deltas)) (defined-drop n d deltas defined) (none-drop n d deltas none))

  -- so the one for these two is the one for all
  pub both-compose : (one : List Operation) → one ≡ one_for first second → ComposesPart one deltas
  both-compose one same =
      subst (λ (o : List Operation). ComposesPart o deltas) (sym same)
      (record {
        all = record {
          normal = (composes_by_normal first second).normal;
          defined = λ d defined. defined-one d first second (first-defined d defined) (second-defined d defined);
          effect = λ d defined. (composes_by_normal first second).effect d (first-defined d defined) (second-defined d defined)
              ∙ (ap (λ (e : List Element). apply e (counted second)) (first-makes d defined)
              ∙ (ends.all.effect (applied d (take n deltas)) (defined-drop n d deltas defined) ∙ applied-parts n d deltas));
        };
        whole = λ d defined none. whole-one d first second (first-defined d defined)
            (begins.whole d (defined-take n d deltas defined) (none-take n d deltas none)) (second-whole d defined none);
      })

  -- and they are refused as out of memory alone
  pub both-memory : (e : Refusal) → IsPart deltas → base_of first + out_of first ≤ lengths_of (take n deltas) → base_of second + out_of second ≤ lengths_of (drop n deltas)
      → IsComposeRefused first second e → e ≡ NoMemory
  both-memory CutsPair part first-short second-short refused =
      let defined = are_defined part.units deltas part.stand in
      absurd
      (whole-text part.units first second (first-defined part.units defined)
      (second-whole part.units defined (part_none part.units deltas part.stand)) refused)
  both-memory BadOps part first-short second-short refused =
      absurd (omega (arith, long-two first second refused.1, first-short, second-short, lengths-split n deltas, part.lengths))
  both-memory NoMemory part first-short second-short refused = refl
  both-memory _ part first-short second-short refused = absurd refused
