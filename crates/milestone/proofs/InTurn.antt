-- The one delta for deltas that stand in turn.
use Rattle.std.proofs.Common.{◌≡◌, ℕ, zero, suc, ◌/◌, ◌≤◌, ◌^◌, List, [], ◌∷◌, length, take, drop, sym, ap, subst, ◌∙◌, arith}
use Rattle.refusal.specs.declared.Refusal.{Refusal}
use Rattle.refusal.specs.declared.Refusal.TheVariants.{NoMemory}
use Rattle.delta.specs.Element.{Element}
use Rattle.delta.specs.Operation.{Operation, base_of}
use Rattle.delta.specs.Gaps.{counted, apply}
use Rattle.delta.proofs.CallerLemmas.{length-apply_counted}
use Rattle.document.specs.Outcome.{IsAccepted}
use Rattle.compose.specs.Many.{AreDefined, applied, lengths_of}
use Rattle.compose.specs.Whole.{PartNone}
use Rattle.revision.specs.Past.{StandInTurn}
use Rattle.revision.proofs.CallerLemmas.{stand-take, stand-drop}
use Rattle.milestone.specs.Job.{Job, IsJob, units_of_job}
use Rattle.milestone.specs.Halves.{IsPart, ComposesPart, first_half, second_half}
pub use Rattle.revision.proofs.CallerLemmas.{applied-split as applied-parts}

-- they are defined in turn, and part no pair
pub are_defined : (units : List Element) (deltas : List (List Operation)) → StandInTurn units deltas → AreDefined units deltas
are_defined units [] turn = tt
are_defined units (first ∷ others) turn = (turn.0.0, are_defined (apply units (counted first)) others turn.1)

pub part_none : (units : List Element) (deltas : List (List Operation)) → StandInTurn units deltas → PartNone units deltas
part_none units [] turn = tt
part_none units (first ∷ others) turn = (turn.0.1, part_none (apply units (counted first)) others turn.1)

-- so they are refused as out of memory alone
pub wants_memory : (deltas : List (List Operation)) (e : Refusal) → IsPart deltas
    → ((d : List Element) → AreDefined d deltas → PartNone d deltas → lengths_of deltas ≤ 2 ^ 48 → e ≡ NoMemory) → e ≡ NoMemory
wants_memory deltas e part refused =
    refused part.units (are_defined part.units deltas part.stand) (part_none part.units deltas part.stand) part.lengths

-- what they make is short
short_after : (units : List Element) (deltas : List (List Operation)) → length units ≤ 2 ^ 48 → StandInTurn units deltas → length (applied units deltas) ≤ 2 ^ 48
short_after units [] short turn = short
short_after units (first ∷ others) short turn = short_after (apply units (counted first)) others turn.0.2 turn.1

-- the one delta for them makes it of the units, and is accepted there
pub one_makes : (units : List Element) (deltas : List (List Operation)) (one : List Operation) → StandInTurn units deltas → ComposesPart one deltas
    → apply units (counted one) ≡ applied units deltas
one_makes units deltas one turn composes = composes.all.effect units (are_defined units deltas turn)

pub one_accepted : (units : List Element) (deltas : List (List Operation)) (one : List Operation) → length units ≤ 2 ^ 48 → StandInTurn units deltas
    → ComposesPart one deltas → IsAccepted units (counted one)
one_accepted units deltas one short turn composes =
    let defined = are_defined units deltas turn in (
      composes.all.defined units defined,
      composes.whole units defined (part_none units deltas turn),
      omega (arith, ap length (composes.all.effect units defined), short_after units deltas short turn),
    )

-- a part of them has no longer lengths
pub lengths-take : (n : ℕ) (deltas : List (List Operation)) → lengths_of (take n deltas) ≤ lengths_of deltas
lengths-take zero deltas = omega arith
lengths-take (suc n) [] = omega arith
lengths-take (suc n) (first ∷ others) = omega (arith, lengths-take n others)

pub lengths-drop : (n : ℕ) (deltas : List (List Operation)) → lengths_of (drop n deltas) ≤ lengths_of deltas
lengths-drop zero deltas = omega arith
lengths-drop (suc n) [] = omega arith
lengths-drop (suc n) (first ∷ others) = omega (arith, lengths-drop n others)

-- what is up to a place of a part is one again, and what is from there on
pub part-take : (n : ℕ) (deltas : List (List Operation)) → IsPart deltas → IsPart (take n deltas)
part-take n deltas part = record {
  units = part.units;
  stand = stand-take n part.units deltas part.stand;
  lengths = omega (arith, part.lengths, lengths-take n deltas);
}

pub part-drop : (n : ℕ) (deltas : List (List Operation)) → IsPart deltas → IsPart (drop n deltas)
part-drop n deltas part = record {
  units = applied part.units (take n deltas);
  stand = stand-drop n part.units deltas part.stand;
  lengths = omega (arith, part.lengths, lengths-drop n deltas);
}

-- the units of a job are short
job_short : (job : Job) → IsJob job → length (units_of_job job) ≤ 2 ^ 48
job_short job is =
    let none : base_of job.base ≤ 0 = omega (arith, is.inserts) in omega (arith, is.inserts, is.lengths, length-apply_counted [] job.base none)

-- all deltas of a job are a part, and so are its halves
pub job_part : (job : Job) → IsJob job → IsPart job.deltas
job_part job is = record { units = units_of_job job; stand = is.stand; lengths = omega (arith, is.lengths) }

pub first_part : (job : Job) → IsJob job → IsPart (first_half job.deltas)
first_part job is = part-take (length job.deltas / 2) job.deltas (job_part job is)

pub second_part : (job : Job) → IsJob job → IsPart (second_half job.deltas)
second_part job is = part-drop (length job.deltas / 2) job.deltas (job_part job is)

-- the one delta for all, on the units of the job
pub all_accepted : (job : Job) (units : List Element) (one : List Operation) → IsJob job → units ≡ units_of_job job → ComposesPart one job.deltas
    → IsAccepted units (counted one)
all_accepted job units one is same composes =
    subst (λ (d : List Element). IsAccepted d (counted one)) (sym same) (one_accepted (units_of_job job) job.deltas one (job_short job is) is.stand composes)

pub all_made : (job : Job) (units : List Element) (one : List Operation) → IsJob job → units ≡ units_of_job job → ComposesPart one job.deltas
    → apply units (counted one) ≡ applied (units_of_job job) job.deltas
all_made job units one is same composes = ap (λ d. apply d (counted one)) same ∙ one_makes (units_of_job job) job.deltas one is.stand composes

-- that for the first half
pub first_accepted : (job : Job) (units : List Element) (one : List Operation) (half : List (List Operation)) → IsJob job → units ≡ units_of_job job
    → half ≡ first_half job.deltas → ComposesPart one half → IsAccepted units (counted one)
first_accepted job units one half is same is_half composes =
    subst (λ (d : List Element). IsAccepted d (counted one)) (sym same)
    (one_accepted (units_of_job job) (first_half job.deltas) one (job_short job is) (stand-take (length job.deltas / 2) (units_of_job job) job.deltas is.stand)
    (subst (ComposesPart one) is_half composes))

pub first_made : (job : Job) (units : List Element) (one : List Operation) (half : List (List Operation)) → IsJob job → units ≡ units_of_job job
    → half ≡ first_half job.deltas → ComposesPart one half → apply units (counted one) ≡ applied (units_of_job job) (first_half job.deltas)
first_made job units one half is same is_half composes =
    ap (λ d. apply d (counted one)) same
    ∙ one_makes (units_of_job job) (first_half job.deltas) one (stand-take (length job.deltas / 2) (units_of_job job) job.deltas is.stand)
    (subst (ComposesPart one) is_half composes)

-- and that for the second, on what the first makes
pub second_accepted : (job : Job) (units : List Element) (one : List Operation) (half : List (List Operation)) → IsJob job
    → units ≡ applied (units_of_job job) (first_half job.deltas) → half ≡ second_half job.deltas → ComposesPart one half → IsAccepted units (counted one)
second_accepted job units one half is same is_half composes =
    subst (λ (d : List Element). IsAccepted d (counted one)) (sym same)
    (one_accepted (applied (units_of_job job) (first_half job.deltas)) (second_half job.deltas) one
    (short_after (units_of_job job) (first_half job.deltas) (job_short job is) (stand-take (length job.deltas / 2) (units_of_job job) job.deltas is.stand))
    (stand-drop (length job.deltas / 2) (units_of_job job) job.deltas is.stand) (subst (ComposesPart one) is_half composes))

pub second_made : (job : Job) (units : List Element) (one : List Operation) (half : List (List Operation)) → IsJob job
    → units ≡ applied (units_of_job job) (first_half job.deltas) → half ≡ second_half job.deltas → ComposesPart one half
    → apply units (counted one) ≡ applied (units_of_job job) job.deltas
second_made job units one half is same is_half composes =
    ap (λ d. apply d (counted one)) same
    ∙ (one_makes (applied (units_of_job job) (first_half job.deltas)) (second_half job.deltas) one (stand-drop (length job.deltas / 2) (units_of_job job) job.deltas is.stand)
    (subst (ComposesPart one) is_half composes)
    ∙ applied-parts (length job.deltas / 2) (units_of_job job) job.deltas)
