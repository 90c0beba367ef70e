-- What leads to a revision that is held.
use Rattle.std.proofs.Common.{◌≡◌, ℕ, zero, suc, ◌+◌, ◌-◌, ◌≤◌, ◌<◌, List, [], ◌∷◌, length, take, drop, get_or, refl, sym, ap, ◌∙◌, arith}
use Rattle.std.proofs.lemmas.List.{take-take}
use Rattle.delta.specs.Operation.{Operation}
use Rattle.revision.specs.Sources.{Sources, with_taken}
use Rattle.revision.specs.declared.rule.taker.Taker.{Taker}
use Rattle.revision.specs.Past.{Past, Prepared, Parts, AreParts, newest, sources_at, sources_after, changes_by, whole_past, seen}
use Rattle.revision.proofs.Floors.{from-from}
use Rattle.revision.proofs.LettingGo.{sources-here}
use Rattle.revision.proofs.Parts.{changes-take, above_floor, below_newest}

at_itself : (i : ℕ) (deltas : List (List Operation)) → i < length deltas → get_or deltas i [] ≡ get_or deltas i (get_or deltas i [])
at_itself i [] there = absurd (omega (arith, there))
at_itself zero (delta ∷ deltas) there = refl
at_itself (suc i) (delta ∷ deltas) there = at_itself i deltas (omega (arith, there))

-- the sources after the change at a place, and after those that come after it
pub noted-here : (start i : ℕ) (sources : Sources) (takers : List Taker) (deltas : List (List Operation)) (taker : Taker) → length takers ≡ length deltas
    → i < length takers → taker ≡ get_or takers i taker
    → sources_after (start + i + 1) (with_taken taker.source taker.number (start + i + 1) sources) (drop (i + 1) (changes_by takers deltas))
    ≡ sources_after (start + i) sources (drop i (changes_by takers deltas))
noted-here start i sources takers deltas taker same there is =
    let within : i < length deltas = omega (arith, same, there) in
    sym (sources-here start i sources takers deltas taker (get_or deltas i []) same within is (at_itself i deltas within))

-- as they are kept
module _ (parts : Parts) (is : AreParts parts) (now : Prepared) (same : seen parts ≡ now) (revision : ℕ) (held : now.past.floor ≤ revision) (there : revision ≤ newest now.past) where
  count : ℕ
  count = revision - parts.start

  within : count ≤ parts.count
  unfolding count
  within = omega (arith, below_newest parts is now same revision held there)

  pub replay_sources : sources_after parts.start parts.sources (changes_by (take (revision - parts.start) parts.takers) (take (revision - parts.start) parts.deltas))
      ≡ sources_at now.past revision
  unfolding count
  replay_sources =
      ap (sources_after parts.start parts.sources)
      (changes-take (revision - parts.start) parts.takers parts.deltas ∙ sym (take-take (revision - parts.start) parts.count (changes_by parts.takers parts.deltas) within))
      ∙ (sym (ap (λ (p : Past). p.sources) (from-from (whole_past parts) parts.floor is.start revision (above_floor parts is now same revision held there)))
      ∙ ap (λ (p : Prepared). sources_at p.past revision) same)
